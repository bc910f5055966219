use Rattle.disk_trait.specs.AllDisks.{ReadsAs}
use Rattle.repo_opening.proofs.Reading.{reads_on, same_on}
use Rattle.repo_opening.proofs.SaidPages.{failed_as, goes_on, pages_fail, said_found, settled_on, torn_pages}
use Rattle.repo_opening.proofs.Syncing.{failing_then, same_content, same_then}
use Rattle.repo_opening.specs.Unsound.{HasPages, LacksPage}
use Rattle.page_format.specs.declared.format.StoreFormat.{StoreFormat}
use Rattle.commit_log.specs.declared.fault.FindFault.TheVariants.{Damaged, Failed}
use Rattle.std.proofs.Common.{IsErrOf, List, OnOk, Option, arith, rules, subst, sym, ◌<◌, ◌≡◌, ℕ}
use Rattle.repo_opening.proofs.unheld.check_pages.Goals as goal

pub returns-in-Ok-clause-settled : goal.returns-in-Ok-clause-settled
returns-in-Ok-clause-settled g c = settled_on (g.P.Parts.disks c.open_logs.new.parts) (g.P.Parts.disks c.check_found.new.parts) c.open_logs.ensures.settled c.check_found.ensures.stays

pub returns-in-Ok-clause-same : goal.returns-in-Ok-clause-same
returns-in-Ok-clause-same g c = same_then (g.P.Parts.disks c.args.parts.now) (g.P.Parts.disks c.open_logs.new.parts) (g.P.Parts.disks c.check_found.new.parts)
    (same_content (g.P.Parts.disks c.args.parts.now) (g.P.Parts.disks c.open_logs.new.parts) c.open_logs.ensures.content c.open_logs.ensures.any_moment)
    (same_on (g.P.Parts.disks c.open_logs.new.parts) (g.P.Parts.disks c.check_found.new.parts) c.check_found.ensures.stays)

pub returns-in-Ok-clause-goes : goal.returns-in-Ok-clause-goes
returns-in-Ok-clause-goes g c = goes_on (g.P.Parts.disks c.args.parts.now) (g.P.Parts.disks c.open_logs.new.parts) (g.P.Parts.disks c.check_found.new.parts) c.open_logs.ensures.any_moment.goes c.check_found.ensures.stays

pub returns-in-Ok-clause-pages : goal.returns-in-Ok-clause-pages
returns-in-Ok-clause-pages g c = λ images reads.
    let told : ReadsAs (g.P.Parts.disks c.open_logs.new.parts) images = reads_on (g.P.Parts.disks c.args.parts.now) (g.P.Parts.disks c.open_logs.new.parts) c.open_logs.ensures.content images reads in
    subst (λ (said : Option (StoreFormat × List (ℕ × ℕ))). OnOk c.check_found.result (HasPages c.args.repo (images 2) said)) (sym (said_found images c.in-Ok.found (c.in-Ok.ensures.counts images reads))) (c.check_found.ensures.pages (images 2) (told 2 (omega arith)))

pub returns-in-Ok-clause-damaged : goal.returns-in-Ok-clause-damaged
returns-in-Ok-clause-damaged g c = λ images r d place reads is.
    let told : ReadsAs (g.P.Parts.disks c.open_logs.new.parts) images = reads_on (g.P.Parts.disks c.args.parts.now) (g.P.Parts.disks c.open_logs.new.parts) c.open_logs.ensures.content images reads in
    let none = c.check_found.ensures.damaged r d place is in
    (none.0, none.1, subst (LacksPage c.args.repo (images 2) place) (sym (said_found images c.in-Ok.found (c.in-Ok.ensures.counts images reads))) (none.2 (images 2) (told 2 (omega arith))))

pub returns-in-Ok-clause-failed : goal.returns-in-Ok-clause-failed
returns-in-Ok-clause-failed g c = λ r is.
    let fails = c.check_found.ensures.failed r is in
    (fails.0, failing_then (g.P.Parts.disks c.args.parts.now) (g.P.Parts.disks c.open_logs.new.parts) (g.P.Parts.disks c.check_found.new.parts) c.open_logs.ensures.any_moment.goes (pages_fail (g.P.Parts.disks c.open_logs.new.parts) (g.P.Parts.disks c.check_found.new.parts) fails.1))

pub returns-in-Err-Damaged-clause-same : goal.returns-in-Err-Damaged-clause-same
returns-in-Err-Damaged-clause-same g c = same_content (g.P.Parts.disks c.args.parts.now) (g.P.Parts.disks c.open_logs.new.parts) c.open_logs.ensures.content c.open_logs.ensures.any_moment

pub returns-in-Err-Failed-clause-same : goal.returns-in-Err-Failed-clause-same
returns-in-Err-Failed-clause-same g c = same_content (g.P.Parts.disks c.args.parts.now) (g.P.Parts.disks c.open_logs.new.parts) c.open_logs.ensures.content c.open_logs.ensures.any_moment

pub returns-in-Err-NoMemory-clause-same : goal.returns-in-Err-NoMemory-clause-same
returns-in-Err-NoMemory-clause-same g c = same_content (g.P.Parts.disks c.args.parts.now) (g.P.Parts.disks c.open_logs.new.parts) c.open_logs.ensures.content c.open_logs.ensures.any_moment

pub returns-in-Err-Damaged-clause-goes : goal.returns-in-Err-Damaged-clause-goes
returns-in-Err-Damaged-clause-goes g c = c.open_logs.ensures.any_moment.goes

pub returns-in-Err-Failed-clause-goes : goal.returns-in-Err-Failed-clause-goes
returns-in-Err-Failed-clause-goes g c = c.open_logs.ensures.any_moment.goes

pub returns-in-Err-NoMemory-clause-goes : goal.returns-in-Err-NoMemory-clause-goes
returns-in-Err-NoMemory-clause-goes g c = c.open_logs.ensures.any_moment.goes

pub returns-in-Err-Damaged-clause-pages : goal.returns-in-Err-Damaged-clause-pages
returns-in-Err-Damaged-clause-pages g c = λ images reads.
    let wrong : IsErrOf c.open_logs.result (Damaged c.in-Err-Damaged._disk c.in-Err-Damaged._place) = search rules in
    torn_pages images c.args.repo c.in-Err-Damaged._disk c.in-Err-Damaged._place (c.open_logs.ensures.damaged images c.in-Err-Damaged._disk c.in-Err-Damaged._place reads wrong)

pub returns-in-Err-Failed-clause-failed : goal.returns-in-Err-Failed-clause-failed
returns-in-Err-Failed-clause-failed g c = λ r is.
    let wrong : IsErrOf c.open_logs.result (Failed c.in-Err-Failed._disk) = search rules in
    let small = c.open_logs.ensures.disk c.in-Err-Failed._disk wrong in
    let within : c.in-Err-Failed._disk < 3 = omega (arith, small) in
    (failed_as c.args.repo r is, record { disk = c.in-Err-Failed._disk; within = within; rose = c.open_logs.ensures.failed c.in-Err-Failed._disk wrong })
