use Rattle.std.proofs.Common.{◌≡◌, ap, ◌∙◌, arith, ℕ, ◌<◌, ◌+◌, List, [], ◌∷◌, zero, suc, length, get_or, drop, refl, Bool}
use Rattle.thor_value.specs.declared.names.Oref.{Oref}
use Rattle.class_defs.specs.declared.store.Plain.{Plain}
use Rattle.serial_model.specs.History.{is_new}
use Rattle.serial_model.specs.Whole.{plain}
use Rattle.serial_model.proofs.fresh.is_new_at.Goals as goal

-- within a list the default of a read doesn't count
any_default : (xs : List Oref) (i : ℕ) (d e : Oref) → i < length xs → get_or xs i d ≡ get_or xs i e
any_default [] i d e within = absurd (omega arith)
any_default (x ∷ xs) zero d e within = refl
any_default (x ∷ xs) (suc i) d e within = any_default xs i d e (omega arith)

new_there : (store : Plain) (names others : List Oref) (i : ℕ) (d e : Oref) (b : Bool) → i < length names → others ≡ drop (i + 1) names → b ≡ is_new store (get_or names i e) others → b ≡ is_new store (get_or names i d) (drop (i + 1) names)
new_there store names others i d e b within is h = h ∙ ap (λ (x : Oref). is_new store x others) (any_default names i e d within) ∙ ap (is_new store (get_or names i d)) is

pub returns : goal.returns
returns c = λ roots d. new_there (plain roots c.args.view.now) c.args.names.now c.split_at.result.1.now c.args.place d _ c.is_new.result c.requires c.split_at.ensures.back (c.is_new.ensures roots)
