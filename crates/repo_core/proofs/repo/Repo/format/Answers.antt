use Rattle.repo_core.proofs.Begun.{roots_begun}
use Rattle.repo_core.proofs.Unbegun.{err_failed, ok_fell}
use Rattle.repo_core.specs.Shown.{faults_of}
use Rattle.repo_durable.proofs.Returning.{if_ok_on}
use Rattle.repo_durable.specs.Kept.{disks_of, held_of}
use Rattle.repo_durable.specs.declared.fault.OpenCause.TheVariants.{Failed}
use Rattle.std.proofs.Common.{ℕ, ◌≡◌}
use Rattle.repo_format.proofs.Roots.{ok_of_two}
use Rattle.repo_core.proofs.repo.Repo.format.Goals as goal

pub returns-clause-begins : goal.returns-clause-begins
returns-clause-begins g c =
    let fresh = c.in_ok-stable.stable in
    if_ok_on c.begin.result _ _ (λ x begins. record { fresh = held_of fresh; is = c.in_ok-stable.ensures.fresh; begins = begins }) c.begin.ensures.begins

pub returns-clause-roots : goal.returns-clause-roots
returns-clause-roots g c =
    let fresh = c.in_ok-stable.stable in
    ok_of_two _ _ _ c.begin.result
    (λ x begins same. roots_begun c.args.repo c.args.setup.now (held_of fresh) ((disks_of g.P.Parts.disks fresh).content 2) x c.in_ok-stable.ensures.roots begins same) c.begin.ensures.begins c.begin.ensures.pages

pub returns-clause-fell : goal.returns-clause-fell
returns-clause-fell g c = ok_fell c.begin.result (g.P.Parts.disks c.args.parts).faults (disks_of g.P.Parts.disks c.in_ok-stable.stable).faults faults_of c.in_ok-stable.ensures.fell c.begin.ensures.fell

pub returns-clause-failed : goal.returns-clause-failed
returns-clause-failed g c = err_failed c.begin.result (g.P.Parts.disks c.args.parts).faults (disks_of g.P.Parts.disks c.in_ok-stable.stable).faults (λ fault. (g.P.Parts.disks fault.parts).faults) (λ fault. fault.cause ≡ Failed) c.in_ok-stable.ensures.fell c.begin.ensures.failed
