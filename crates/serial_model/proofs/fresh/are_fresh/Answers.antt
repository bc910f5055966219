use Rattle.std.proofs.Common.{◌≡◌, ℕ, ◌+◌, ◌<◌, Bool, true, false, ◌&&◌, List, length, drop, get_or, ap, sym, ◌∙◌}
use Rattle.std.proofs.lemmas.List.{at_drop_more}
use Rattle.thor_value.specs.declared.names.Oref.{Oref}
use Rattle.class_defs.specs.declared.store.Plain.{Plain}
use Rattle.serial_model.specs.History.{are_fresh, is_new}
use Rattle.serial_model.specs.Whole.{plain}
use Rattle.serial_model.proofs.fresh.are_fresh.Goals as goal

-- any name
some_name : Oref
some_name = record { repo = 0; page = 0; slot = 0 }

refused : (store : Plain) (names : List Oref) (i : ℕ) (b : Bool) → i < length names → are_fresh store (drop i names) ≡ are_fresh store names → b ≡ is_new store (get_or names i some_name) (drop (i + 1) names) → b ≡ false → false ≡ are_fresh store names
refused store names i b within h e f = sym (sym h ∙ at_drop_more (are_fresh store) names i some_name within ∙ ap (λ (c : Bool). c && are_fresh store (drop (i + 1) names)) (sym e ∙ f))

passed : (store : Plain) (names : List Oref) (i : ℕ) (b : Bool) → i < length names → are_fresh store (drop i names) ≡ are_fresh store names → b ≡ is_new store (get_or names i some_name) (drop (i + 1) names) → b ≡ true → are_fresh store (drop (i + 1) names) ≡ are_fresh store names
passed store names i b within h e f = sym (sym h ∙ at_drop_more (are_fresh store) names i some_name within ∙ ap (λ (c : Bool). c && are_fresh store (drop (i + 1) names)) (sym e ∙ f))

pub returns-then-not-is_new_at : goal.returns-then-not-is_new_at
returns-then-not-is_new_at c = λ roots. rw (← c.as_slice-names.ensures) (refused (plain roots c.args.view.now) c.as_slice-names.result.now c.loop-place.place c.is_new_at.result c.loop-place-test.true (c.loop-place.invariant roots) (c.is_new_at.ensures roots some_name) c.if-not-is_new_at.true)

pub loop-place-preserved : goal.loop-place-preserved
loop-place-preserved c = λ roots. passed (plain roots c.args.view.now) c.as_slice-names.result.now c.loop-place.place c.is_new_at.result c.loop-place-test.true (c.loop-place.invariant roots) (c.is_new_at.ensures roots some_name) c.if-not-is_new_at.false
