use Rattle.recovery.specs.Paged.{HasSide}
use Rattle.repo_opening.proofs.Paging.{all_sides, next_side, sides_all, sides_next}
use Rattle.recovery.proofs.Moving.{stays_then}
use Rattle.repo_opening.proofs.Reading.{bytes_on}
use Rattle.std.proofs.Common.{IsErrOf, rules, sym, ◌∙◌}
use Rattle.repo_opening.proofs.SaidPages.{no_page, rose_later}
use Rattle.repo_opening.specs.declared.unopened.Unopened.TheVariants.{Damaged, Failed}
use Rattle.repo_opening.proofs.pages.read_pages.Goals as goal

pub loop-page-preserved : goal.loop-page-preserved
loop-page-preserved g c =
    let inv = c.loop-page.invariant in
    let old = g.P.Parts.disks c.args.parts.now in
    let mid = g.P.Parts.disks c.loop-page.parts in
    let new = g.P.Parts.disks c.read_side.new.parts in (
      stays_then old mid new inv.0 c.read_side.ensures.stays,
      bytes_on mid new c.in_ok-size.size c.read_side.ensures.stays inv.1,
      λ disk told. next_side c.args.format c.args.repo disk c.args.installed.now c.as_slice-page-items.result.now c.loop-page.page-index _ c.args.objects.now c.loop-page.objects c.read_side.new.objects c.as_slice-page-items.ensures.value c.loop-page-test.true (inv.2 disk told) (c.in_ok-has_objects.ensures.side disk (inv.0.content ∙ told)),
      λ disk told. sides_next (HasSide c.args.format disk) c.args.installed.now c.as_slice-page-items.result.now c.loop-page.page-index _ c.as_slice-page-items.ensures.value c.loop-page-test.true (inv.3 disk (sym c.read_side.ensures.stays.content ∙ told)) (c.in_ok-has_objects.ensures.within disk told),
    )

pub returns-clause-sides : goal.returns-clause-sides
returns-clause-sides g c = λ disk told. sides_all (HasSide c.args.format disk) c.args.installed.now c.as_slice-page-items.result.now c.loop-page.page-index c.as_slice-page-items.ensures.value c.loop-page-test.false (c.loop-page.invariant.3 disk told)

pub returns-clause-paged : goal.returns-clause-paged
returns-clause-paged g c = λ disk told. all_sides c.args.format c.args.repo disk c.args.installed.now c.as_slice-page-items.result.now c.loop-page.page-index c.args.objects.now c.loop-page.objects c.as_slice-page-items.ensures.value c.loop-page-test.false (c.loop-page.invariant.2 disk told)

pub returns-in_err-has_objects-clause-damaged : goal.returns-in_err-has_objects-clause-damaged
returns-in_err-has_objects-clause-damaged g c = λ r d place is.
    let wrong : IsErrOf c.read_side.result (Damaged r d place) = search rules in
    let none = c.read_side.ensures.damaged r d place wrong in
    let inv = c.loop-page.invariant in
    (none.0, none.1, λ disk told. no_page c.args.format c.args.repo disk c.args.installed.now c.as_slice-page-items.result.now c.loop-page.page-index _ c.args.objects.now c.loop-page.objects place c.as_slice-page-items.ensures.value c.loop-page-test.true (inv.2 disk told) none.2 (none.3 disk (inv.0.content ∙ told)))

pub returns-in_err-has_objects-clause-failed : goal.returns-in_err-has_objects-clause-failed
returns-in_err-has_objects-clause-failed g c = λ r is.
    let wrong : IsErrOf c.read_side.result (Failed r) = search rules in
    let fails = c.read_side.ensures.failed r wrong in
    (fails.0, rose_later ((g.P.Parts.disks c.args.parts.now).faults 2) ((g.P.Parts.disks c.loop-page.parts).faults 2) ((g.P.Parts.disks c.read_side.new.parts).faults 2) c.loop-page.invariant.0.alone.faults_stay fails.1)
