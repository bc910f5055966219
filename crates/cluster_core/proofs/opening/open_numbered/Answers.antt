use Rattle.cluster_core.specs.Failing.{HasFailedOn, faults_at, faults_on}
use Rattle.cluster_core.specs.Seated.{IsBegun}
use Rattle.cluster_port.specs.Failing.{NoneFell}
use Rattle.store_opening.specs.declared.closed.Closed.{Closed}
use Rattle.std.proofs.Common.{OnOk, subst, sym, ◌≡◌}
use Rattle.cluster_core.proofs.opening.open_numbered.Goals as goal

pub open_known-requires : goal.open_known-requires
open_known-requires g c = subst (IsBegun g.O.Opening.run c.args.repos c.args.number) c.in-Known.is c.requires

pub returns-in-Known-clause-fell : goal.returns-in-Known-clause-fell
returns-in-Known-clause-fell g c = subst (λ (x : Closed _). OnOk c.open_known.result.1 (NoneFell (faults_at g.P.Parts.disks x) (faults_on g.P.Parts.disks c.open_known.result.0))) (sym c.in-Known.is) c.open_known.ensures.fell

pub returns-in-Known-clause-failed : goal.returns-in-Known-clause-failed
returns-in-Known-clause-failed g c = λ r is. subst (λ (x : Closed _). (r ≡ c.args.number) × HasFailedOn g.P.Parts.disks (faults_at g.P.Parts.disks x) c.open_known.result.0) (sym c.in-Known.is) (c.open_known.ensures.failed r is)
