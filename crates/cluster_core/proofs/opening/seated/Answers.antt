use Rattle.cluster_core.proofs.Failing.{fell_sites}
use Rattle.cluster_core.specs.Counts.{parts_of}
use Rattle.std.proofs.Common.{IfErr, IfOk, subst, vec_len, ◌≡◌, ℕ}
use Rattle.cluster_core.proofs.opening.seated.Goals as goal

pub returns-in-Ok-clause-ok : goal.returns-in-Ok-clause-ok
returns-in-Ok-clause-ok g c = subst (λ (n : ℕ). IfOk c.settled.result (λ cluster. parts_of cluster ≡ n)) c.in-Ok.ensures.count c.settled.ensures.ok

pub returns-in-Ok-clause-err : goal.returns-in-Ok-clause-err
returns-in-Ok-clause-err g c = subst (λ (n : ℕ). IfErr c.settled.result (λ fault. vec_len fault.parts ≡ n)) c.in-Ok.ensures.count c.settled.ensures.err

pub returns-in-Ok-clause-failed : goal.returns-in-Ok-clause-failed
returns-in-Ok-clause-failed g c = λ given each. c.settled.ensures.failed given (fell_sites g.P.Parts.disks given c.args.seats.items c.in-Ok.sites.items each c.in-Ok.ensures.same)
