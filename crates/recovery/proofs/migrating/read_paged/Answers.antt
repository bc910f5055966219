use Rattle.std.proofs.Common.{IsErrOf, [], refl, rules, subst, sym, ℕ, ◌∙◌}
use Rattle.disk_trait.specs.Disks.{Rose}
use Rattle.page_format.specs.declared.format.StoreFormat.TheVariants.{One}
use Rattle.recovery.proofs.Moving.{stays_none, stays_then}
use Rattle.recovery.proofs.PagedObjects.{AreAll, OnNamed, all_at, all_distinct, all_next, all_none, all_of, all_whole, side_at}
use Rattle.recovery.specs.Paged.{HasSide, IsOnSide}
use Rattle.recovery.specs.declared.fault.RecoverFault.TheVariants.{Damaged, Failed, NoMemory}
use Rattle.recovery.proofs.migrating.read_paged.Goals as goal

pub loop-page-init : goal.loop-page-init
loop-page-init g c = (
  stays_none (g.P.Parts.disks c.args.parts.now),
  refl,
  λ disk told. subst (AreAll (IsOnSide One c.args.repo disk) []) (sym c.new-paged.ensures) (all_none (IsOnSide One c.args.repo disk)),
  subst (AreAll (OnNamed c.args.repo) []) (sym c.new-paged.ensures) (all_none (OnNamed c.args.repo)),
)

pub put_page-requires : goal.put_page-requires
put_page-requires g c = record { told = λ disk told. side_at (HasSide One disk) c.args.installed.now c.as_slice-page-items.result.now c.loop-page.page-index _ c.as_slice-page-items.ensures.value c.loop-page-test.true (c.requires.told disk (sym c.loop-page.invariant.0.content ∙ told)) }

pub loop-page-preserved : goal.loop-page-preserved
loop-page-preserved g c =
    let inv = c.loop-page.invariant in
    let put = c.in_ok-put_page.ensures.put in (
      stays_then (g.P.Parts.disks c.args.parts.now) (g.P.Parts.disks c.loop-page.parts) (g.P.Parts.disks c.put_page.new.parts) inv.0 c.put_page.ensures.stays,
      c.in_ok-put_page.ensures.steady ∙ inv.1,
      λ disk told. all_next (IsOnSide One c.args.repo disk) c.args.installed.now c.as_slice-page-items.result.now c.loop-page.page-index _ c.loop-page.paged put.objects c.put_page.new.paged c.as_slice-page-items.ensures.value c.loop-page-test.true (inv.2 disk told) (put.on_side disk (inv.0.content ∙ told)) put.put,
      all_next (OnNamed c.args.repo) c.args.installed.now c.as_slice-page-items.result.now c.loop-page.page-index _ c.loop-page.paged put.objects c.put_page.new.paged c.as_slice-page-items.ensures.value c.loop-page-test.true inv.3 (put.small, put.on_page) put.put,
    )

pub returns-in_err-put_page-clause-stays : goal.returns-in_err-put_page-clause-stays
returns-in_err-put_page-clause-stays g c = stays_then (g.P.Parts.disks c.args.parts.now) (g.P.Parts.disks c.loop-page.parts) (g.P.Parts.disks c.put_page.new.parts) c.loop-page.invariant.0 c.put_page.ensures.stays

pub returns-in_err-put_page-clause-damaged : goal.returns-in_err-put_page-clause-damaged
returns-in_err-put_page-clause-damaged g c = λ d place is disk told has.
    let wrong : IsErrOf c.put_page.result (Damaged d place) = search rules in
    let one = all_at (IsOnSide One c.args.repo disk) c.args.installed.now c.as_slice-page-items.result.now has.paged.pages c.loop-page.page-index _ c.as_slice-page-items.ensures.value c.loop-page-test.true has.paged.each in
    c.put_page.ensures.damaged d place wrong disk (c.loop-page.invariant.0.content ∙ told) one.0 one.1

pub returns-in_err-put_page-clause-failed : goal.returns-in_err-put_page-clause-failed
returns-in_err-put_page-clause-failed g c = λ d is.
    let wrong : IsErrOf c.put_page.result (Failed d) = search rules in
    let f = c.put_page.ensures.failed d wrong in
    (f.0, subst (λ (n : ℕ). Rose n ((g.P.Parts.disks c.put_page.new.parts).faults 2)) c.loop-page.invariant.1 f.1)

pub returns-in_err-put_page-clause-wanting : goal.returns-in_err-put_page-clause-wanting
returns-in_err-put_page-clause-wanting g c = λ is.
    let wrong : IsErrOf c.put_page.result NoMemory = search rules in
    c.put_page.ensures.wanting wrong ∙ c.loop-page.invariant.1

pub returns-clause-paged : goal.returns-clause-paged
returns-clause-paged g c = λ disk told.
    let whole = all_whole (IsOnSide One c.args.repo disk) c.args.installed.now c.as_slice-page-items.result.now c.loop-page.page-index c.loop-page.paged c.as_slice-page-items.ensures.value c.loop-page-test.false (c.loop-page.invariant.2 disk told) in
    record { pages = whole.pages; each = whole.each; all = whole.all }

pub returns-clause-own : goal.returns-clause-own
returns-clause-own g c = λ few. all_of c.args.repo c.args.installed.now c.loop-page.paged few (all_whole (OnNamed c.args.repo) c.args.installed.now c.as_slice-page-items.result.now c.loop-page.page-index c.loop-page.paged c.as_slice-page-items.ensures.value c.loop-page-test.false c.loop-page.invariant.3)

pub returns-clause-distinct : goal.returns-clause-distinct
returns-clause-distinct g c = all_distinct c.args.repo c.args.installed.now c.loop-page.paged c.as_slice-page-items.ensures.fit.rising (all_whole (OnNamed c.args.repo) c.args.installed.now c.as_slice-page-items.result.now c.loop-page.page-index c.loop-page.paged c.as_slice-page-items.ensures.value c.loop-page-test.false c.loop-page.invariant.3)
