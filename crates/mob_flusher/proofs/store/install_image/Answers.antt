use Rattle.std.proofs.Common.{◌≡◌, ◌<◌, ◌∙◌, sym, subst, Some, ℕ, List}
use Rattle.std.proofs.lemmas.Result.{IfOk-weaker}
use Rattle.disk_trait.specs.Disks.{Leaves}
use Rattle.disk_trait.proofs.Runs.{leaves_then}
use Rattle.page_format.specs.Sides.{side_in_use}
use Rattle.page_store.specs.Sides.{KeepsSides, next_side}
use Rattle.page_store.specs.Store.{with_place}
use Rattle.mob_flusher.specs.Images.{IsFlushed}
use Rattle.mob_flusher.proofs.Maps.{still_keeps, if_ok_both, held_placed, next_below}
use Rattle.mob_flusher.proofs.store.install_image.Goals as goal

pub returns-in_err-hold-clause-any_moment : goal.returns-in_err-hold-clause-any_moment
returns-in_err-hold-clause-any_moment g c = λ disk told.
    still_keeps (g.P.Parts.disks c.args.parts.now) (g.P.Parts.disks c.hold.new.parts) c.args.pages.now.sides disk c.in_err-hold.ensures.still c.requires.settled told

pub returns-in_err-image-in-Some-clause-any_moment : goal.returns-in_err-image-in-Some-clause-any_moment
returns-in_err-image-in-Some-clause-any_moment g c = λ disk told.
    still_keeps (g.P.Parts.disks c.args.parts.now) (g.P.Parts.disks c.hold.new.parts) c.args.pages.now.sides disk c.in_ok-hold.ensures.still c.requires.settled told

pub returns-clause-any_moment : goal.returns-clause-any_moment
returns-clause-any_moment g c = λ disk told.
    let old = g.P.Parts.disks c.args.parts.now in
    let mid = g.P.Parts.disks c.hold.new.parts in
    let new = g.P.Parts.disks c.install.new.parts in
    leaves_then old mid new 2 (KeepsSides c.args.pages.now.sides disk)
    (still_keeps old mid c.args.pages.now.sides disk c.in_ok-hold.ensures.still c.requires.settled told)
    (subst (λ (s : List (ℕ × ℕ)). Leaves mid new 2 (KeepsSides s disk)) c.in_ok-hold.ensures.sides (c.install.ensures.any_moment disk (c.in_ok-hold.ensures.content ∙ told)))

pub returns-clause-flushed : goal.returns-clause-flushed
returns-clause-flushed g c =
    let image = c.in_ok-image-in-Some.image in
    let base = c.in-Some.base.now in
    let is_image = c.in_ok-image-in-Some.ensures.image in
    if_ok_both c.install.result (λ (side : ℕ). c.install.new.self.staged ≡ Some (image, side)) (λ (side : ℕ). IsFlushed (record { pages = c.install.new.self; mob = c.args.mob.now }) c.args.oref.repo c.args.oref.page side) (c.install.new.self.held ≡ with_place c.hold.new.self.held image.number)
    (λ side staged placed. record {
      image = image;
      base = base;
      number = c.in-Some.ensures.number;
      staged = staged;
      held = held_placed c.hold.new.self.held c.install.new.self.held c.args.oref.page image.number base (is_image.number ∙ c.in-Some.ensures.number) (sym c.in-Some.ensures.value) placed;
      one_repo = c.requires.one_repo;
      is_image = is_image;
    }) c.install.ensures.staged c.install.ensures.held

pub returns-clause-side : goal.returns-clause-side
returns-clause-side g c =
    let in_use = side_in_use c.hold.new.self.sides c.in_ok-image-in-Some.image.number in
    IfOk-weaker c.install.result (λ (side : ℕ). side ≡ next_side in_use) (λ (side : ℕ). side < 2) (λ side is. subst (λ (n : ℕ). n < 2) (sym is) (next_below in_use)) c.install.ensures.side
