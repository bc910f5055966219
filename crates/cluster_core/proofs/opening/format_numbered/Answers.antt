use Rattle.cluster_core.specs.Failing.{HasFailedOn, faults_on}
use Rattle.cluster_core.specs.declared.seat.Seat.{Seat}
use Rattle.cluster_port.specs.Failing.{NoneFell}
use Rattle.std.proofs.Common.{OnOk, subst, sym, ◌≡◌}
use Rattle.cluster_core.proofs.opening.format_numbered.Goals as goal

pub returns-in-Closed-clause-fell : goal.returns-in-Closed-clause-fell
returns-in-Closed-clause-fell g c = subst (λ (x : Seat _ _). OnOk c.format_closed.result.1 (NoneFell (faults_on g.P.Parts.disks x) (faults_on g.P.Parts.disks c.format_closed.result.0))) (sym c.in-Closed.is) c.format_closed.ensures.fell

pub returns-in-Closed-clause-failed : goal.returns-in-Closed-clause-failed
returns-in-Closed-clause-failed g c = λ r is. subst (λ (x : Seat _ _). (r ≡ c.args.number) × HasFailedOn g.P.Parts.disks (faults_on g.P.Parts.disks x) c.format_closed.result.0) (sym c.in-Closed.is) (c.format_closed.ensures.failed r is)
