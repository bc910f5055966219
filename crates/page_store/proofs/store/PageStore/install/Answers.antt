use Rattle.std.proofs.Common.{◌≡◌, ◌∙◌, sym, subst, refl, ℕ, List}
use Rattle.disk_trait.specs.Disks.{Torn, written}
use Rattle.disk_trait.proofs.Runs.{leaves_weaker}
use Rattle.page_format.specs.Pages.{page_size}
use Rattle.page_store.specs.Objects.{Spells}
use Rattle.page_store.specs.Sides.{KeepsSides, place_of, side_bytes}
use Rattle.page_store.specs.Store.{Store, Agrees}
use Rattle.page_store.proofs.Sides.{keeps_none, keeps_torn, told_before, spells_written, outside_written, same_bytes, keeps_outside}
use Rattle.page_store.proofs.Stores.{staging, staged_store, agrees_staging}
use Rattle.page_store.proofs.store.PageStore.install.Goals as goal

pub returns-in_err-side-clause-any_moment : goal.returns-in_err-side-clause-any_moment
returns-in_err-side-clause-any_moment g c = λ disk told. keeps_none (g.P.Parts.disks c.args.parts.now) c.args.self.now.sides disk c.requires.settled told

pub returns-in_err-write_side-clause-any_moment : goal.returns-in_err-write_side-clause-any_moment
returns-in_err-write_side-clause-any_moment g c = λ disk told.
    let run = rw c.number.ensures at (c.write_side.ensures.any_moment disk told) in
    leaves_weaker (g.P.Parts.disks c.args.parts.now) (g.P.Parts.disks c.write_side.new.parts) 2 (Torn (place_of c.args.page.now.number c.in_ok-side.side) page_size disk) (KeepsSides c.args.self.now.sides disk)
    (λ image torn. keeps_torn c.args.self.now.sides c.args.page.now.number c.in_ok-side.side disk image c.stage.ensures.fit (c.requires.agrees disk told).reaches c.in_ok-side.ensures.side torn) run

pub returns-clause-any_moment : goal.returns-clause-any_moment
returns-clause-any_moment g c = λ disk told.
    let run = rw c.number.ensures at (c.write_side.ensures.any_moment disk told) in
    leaves_weaker (g.P.Parts.disks c.args.parts.now) (g.P.Parts.disks c.write_side.new.parts) 2 (Torn (place_of c.args.page.now.number c.in_ok-side.side) page_size disk) (KeepsSides c.args.self.now.sides disk)
    (λ image torn. keeps_torn c.args.self.now.sides c.args.page.now.number c.in_ok-side.side disk image c.stage.ensures.fit (c.requires.agrees disk told).reaches c.in_ok-side.ensures.side torn) run

pub returns-clause-written : goal.returns-clause-written
returns-clause-written g c = λ final now.
    let old = g.P.Parts.disks c.args.parts.now in
    let new = g.P.Parts.disks c.write_side.new.parts in
    let was = told_before (old.content 2) (new.content 2) final c.write_side.ensures.alone.told now in
    let page = c.args.page.now in
    let content = rw c.number.ensures at (c.in_ok-write_side.ensures.content was.0 was.1) in
    let same = same_bytes final (written was.0 (place_of page.number c.in_ok-side.side) c.as_slice.result.now) (sym now ∙ content) in
    subst (λ (l : List ℕ). Spells (side_bytes l page.number c.in_ok-side.side) page.number page) (sym same)
    (spells_written was.0 c.as_slice.result.now page.number c.in_ok-side.side page refl (c.as_slice.ensures ∙ c.in_ok-side.ensures.bytes) c.requires.objects)

pub returns-clause-agrees : goal.returns-clause-agrees
returns-clause-agrees g c = λ final now.
    let old = g.P.Parts.disks c.args.parts.now in
    let new = g.P.Parts.disks c.write_side.new.parts in
    let was = told_before (old.content 2) (new.content 2) final c.write_side.ensures.alone.told now in
    let page = c.args.page.now in
    let put = c.as_slice.ensures ∙ c.in_ok-side.ensures.bytes in
    let image = written was.0 (place_of page.number c.in_ok-side.side) c.as_slice.result.now in
    let content = rw c.number.ensures at (c.in_ok-write_side.ensures.content was.0 was.1) in
    let same = same_bytes final image (sym now ∙ content) in
    let agrees = agrees_staging c.args.self.now page c.in_ok-side.side was.0 image (c.requires.agrees was.0 was.1) c.stage.ensures.fit c.in_ok-side.ensures.side
    (outside_written was.0 c.as_slice.result.now page.number c.in_ok-side.side page refl put c.requires.objects)
    (spells_written was.0 c.as_slice.result.now page.number c.in_ok-side.side page refl put c.requires.objects) in
    subst (λ (s : Store). Agrees s final) (staged_store c.args.self.now c.stage.new.self page c.in_ok-side.side c.stage.ensures.sides c.in_ok-side.ensures.held c.in_ok-side.ensures.staged)
    (subst (λ (l : List ℕ). Agrees (staging c.args.self.now page c.in_ok-side.side) l) (sym same) agrees)

pub returns-clause-kept : goal.returns-clause-kept
returns-clause-kept g c = λ before told final now.
    let page = c.args.page.now in
    let image = written before (place_of page.number c.in_ok-side.side) c.as_slice.result.now in
    let content = rw c.number.ensures at (c.in_ok-write_side.ensures.content before told) in
    let same = same_bytes final image (sym now ∙ content) in
    let out = outside_written before c.as_slice.result.now page.number c.in_ok-side.side page refl (c.as_slice.ensures ∙ c.in_ok-side.ensures.bytes) c.requires.objects in
    subst (λ (l : List ℕ). KeepsSides c.args.self.now.sides before l) (sym same)
    (keeps_outside c.args.self.now.sides page.number c.in_ok-side.side before image c.stage.ensures.fit (c.requires.agrees before told).reaches c.in_ok-side.ensures.side out)
