use Rattle.disk_trait.proofs.Several.{goes_then}
use Rattle.repo_opening.proofs.Reading.{found_is, reads_on}
use Rattle.repo_opening.proofs.SaidPages.{failed_as, same_err, told_logs}
use Rattle.repo_opening.proofs.Syncing.{failing_then, same_content, same_then}
use Rattle.repo_opening.specs.declared.unopened.Unopened.TheVariants.{Damaged, Failed}
use Rattle.recovery.specs.declared.fault.RecoverFault.TheVariants as recovered
use Rattle.std.proofs.Common.{IsErrOf, arith, refl, rules, ◌<◌, ◌≡◌}
use Rattle.repo_opening.proofs.repository.recover_one.Goals as goal

pub returns-in-Ok-clause-found : goal.returns-in-Ok-clause-found
returns-in-Ok-clause-found g c = found_is (g.P.Parts.disks c.recover.new.parts) c.in-Ok.found c.in-Ok.ensures.holds c.in-Ok.ensures.keeps c.in-Ok.ensures.pages

pub returns-in-Ok-clause-same : goal.returns-in-Ok-clause-same
returns-in-Ok-clause-same g c = same_content (g.P.Parts.disks c.args.parts.now) (g.P.Parts.disks c.recover.new.parts) c.recover.ensures.content c.recover.ensures.any_moment

pub returns-in-Err-Damaged-clause-same : goal.returns-in-Err-Damaged-clause-same
returns-in-Err-Damaged-clause-same g c = same_then (g.P.Parts.disks c.args.parts.now) (g.P.Parts.disks c.recover.new.parts) (g.P.Parts.disks c.unheld.new.parts)
    (same_content (g.P.Parts.disks c.args.parts.now) (g.P.Parts.disks c.recover.new.parts) c.recover.ensures.content c.recover.ensures.any_moment) c.unheld.ensures.same

pub returns-in-Err-Failed-clause-same : goal.returns-in-Err-Failed-clause-same
returns-in-Err-Failed-clause-same g c = same_content (g.P.Parts.disks c.args.parts.now) (g.P.Parts.disks c.recover.new.parts) c.recover.ensures.content c.recover.ensures.any_moment

pub returns-in-Err-NoMemory-clause-same : goal.returns-in-Err-NoMemory-clause-same
returns-in-Err-NoMemory-clause-same g c = same_content (g.P.Parts.disks c.args.parts.now) (g.P.Parts.disks c.recover.new.parts) c.recover.ensures.content c.recover.ensures.any_moment

pub returns-in-Ok-clause-goes : goal.returns-in-Ok-clause-goes
returns-in-Ok-clause-goes g c = c.recover.ensures.any_moment.goes

pub returns-in-Err-Failed-clause-goes : goal.returns-in-Err-Failed-clause-goes
returns-in-Err-Failed-clause-goes g c = c.recover.ensures.any_moment.goes

pub returns-in-Err-NoMemory-clause-goes : goal.returns-in-Err-NoMemory-clause-goes
returns-in-Err-NoMemory-clause-goes g c = c.recover.ensures.any_moment.goes

pub returns-in-Err-Damaged-clause-goes : goal.returns-in-Err-Damaged-clause-goes
returns-in-Err-Damaged-clause-goes g c = goes_then (g.P.Parts.disks c.args.parts.now) (g.P.Parts.disks c.recover.new.parts) (g.P.Parts.disks c.unheld.new.parts) c.recover.ensures.any_moment.goes c.unheld.ensures.goes

pub returns-in-Err-Damaged-clause-damaged : goal.returns-in-Err-Damaged-clause-damaged
returns-in-Err-Damaged-clause-damaged g c = λ images r d place reads is.
    let told = reads_on (g.P.Parts.disks c.args.parts.now) (g.P.Parts.disks c.recover.new.parts) c.recover.ensures.content images reads in
    let this : c.unheld.result ≡ Damaged r d place = same_err _ c.unheld.result (Damaged r d place) refl is in
    let by = c.unheld.ensures.damaged images r d place told this in
    let wrong : IsErrOf c.recover.result (recovered.Damaged c.in-Err-Damaged.disk c.in-Err-Damaged.place) = search rules in
    (by.0, told_logs images c.args.repo c.in-Err-Damaged.disk c.in-Err-Damaged.place d place (record { at = c.recover.ensures.damaged images c.in-Err-Damaged.disk c.in-Err-Damaged.place reads wrong; none = c.recover.ensures.lost images c.in-Err-Damaged.disk c.in-Err-Damaged.place reads wrong }) by.1)

pub returns-in-Err-Damaged-clause-failed : goal.returns-in-Err-Damaged-clause-failed
returns-in-Err-Damaged-clause-failed g c = λ r is.
    let this : c.unheld.result ≡ Failed r = same_err _ c.unheld.result (Failed r) refl is in
    let by = c.unheld.ensures.failed r this in
    (by.0, failing_then (g.P.Parts.disks c.args.parts.now) (g.P.Parts.disks c.recover.new.parts) (g.P.Parts.disks c.unheld.new.parts) c.recover.ensures.any_moment.goes by.1)

pub returns-in-Err-Failed-clause-failed : goal.returns-in-Err-Failed-clause-failed
returns-in-Err-Failed-clause-failed g c = λ r is.
    let wrong : IsErrOf c.recover.result (recovered.Failed c.in-Err-Failed._disk) = search rules in
    let small = c.recover.ensures.disk c.in-Err-Failed._disk wrong in
    let within : c.in-Err-Failed._disk < 3 = omega (arith, small) in
    (failed_as c.args.repo r is, record { disk = c.in-Err-Failed._disk; within = within; rose = c.recover.ensures.failed c.in-Err-Failed._disk wrong })
