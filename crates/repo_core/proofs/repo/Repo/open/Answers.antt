use Rattle.repo_core.proofs.Unbegun.{err_failed, ok_fell}
use Rattle.repo_core.specs.Shown.{faults_of}
use Rattle.repo_durable.proofs.Returning.{if_ok_on}
use Rattle.repo_durable.specs.Kept.{disks_of}
use Rattle.repo_durable.specs.declared.fault.OpenCause.TheVariants.{Failed}
use Rattle.std.proofs.Common.{◌∙◌, ◌≡◌}
use Rattle.repo_core.proofs.repo.Repo.open.Goals as goal

pub returns-clause-fell : goal.returns-clause-fell
returns-clause-fell g c = ok_fell c.begin.result (g.P.Parts.disks c.args.parts).faults (disks_of g.P.Parts.disks c.in_ok-stable.stable).faults faults_of c.in_ok-stable.ensures.fell c.begin.ensures.fell

pub returns-clause-failed : goal.returns-clause-failed
returns-clause-failed g c = err_failed c.begin.result (g.P.Parts.disks c.args.parts).faults (disks_of g.P.Parts.disks c.in_ok-stable.stable).faults (λ fault. (g.P.Parts.disks fault.parts).faults) (λ fault. fault.cause ≡ Failed) c.in_ok-stable.ensures.fell c.begin.ensures.failed

pub returns-clause-content : goal.returns-clause-content
returns-clause-content g c = if_ok_on c.begin.result _ _ (λ repo pages. pages ∙ c.in_ok-stable.ensures.content 2) c.begin.ensures.pages
