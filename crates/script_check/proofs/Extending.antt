-- Upgrades one behind another.
use Rattle.std.proofs.Common.{◌≡◌, ℕ, suc, ◌+◌, ◌-◌, ◌<◌, ◌≤◌, arith, Bool, true, false, cond, List, [], ◌∷◌, ◌++◌, length, take, get_or, None, Some, refl, ap, sym, ◌∙◌}
use Rattle.std.specs.List.{filter, flat_map}
use Rattle.std.specs.Prelude.{slice_get}
use Rattle.class_defs.specs.declared.store.Schema.{Schema}
use Rattle.class_defs.specs.declared.store.Schemas.{Schemas}
use Rattle.class_defs.specs.declared.store.UpgradedSchema.{UpgradedSchema}
use Rattle.class_defs.specs.declared.upgrades.Upgrade.{Upgrade}
use Rattle.script_check.proofs.UpgradingLaws.{given_more}
use Rattle.script_check.specs.Upgrading.{extended, last_behind, with_epoch}

pub extended_behind : (s : Schemas) (us vs : List Upgrade) → extended s (us ++ vs) ≡ extended (extended s us) vs
extended_behind s [] vs = refl
extended_behind s (u ∷ us) vs = extended_behind (with_epoch s u) us vs

pub one_more : {X : Type 0} (f : X → List Upgrade) (s now new : Schemas) (xs : List X) (i : ℕ) (x : X) → i < length xs → x ≡ get_or xs i x → now ≡ extended s (flat_map f (take i xs)) → new ≡ extended now (f x) → new ≡ extended s (flat_map f (take (i + 1) xs))
one_more f s now new xs i x within is so_far step =
    step ∙ ap (λ t. extended t (f x)) so_far ∙ sym (extended_behind s (flat_map f (take i xs)) (f x)) ∙ ap (extended s) (given_more f xs i x [] within is)

-- no more pass a test than there are
pub filter_short : {X : Type 0} (p : X → Bool) (xs : List X) → length (filter p xs) ≤ length xs
filter_short p [] = omega (arith)
filter_short p (x ∷ xs) = by (p x) (filter_short p xs)
  where
    by : (b : Bool) → length (filter p xs) ≤ length xs → length (cond b (x ∷ filter p xs) (filter p xs)) ≤ length (x ∷ xs)
    by true h = omega (arith, h)
    by false h = omega (arith, h)

-- the last schema is that of the last upgrade
pub last_some : (s : Schema) (us : List UpgradedSchema) (x : UpgradedSchema) → slice_get us (length us - 1) ≡ Some x → last_behind s us ≡ x.schema
last_some s [] x h = let bad : None ≡ Some x = h in cc
last_some s (u ∷ []) x h = let e : u ≡ x = cc in ap (λ (w : UpgradedSchema). w.schema) e
last_some s (u ∷ v ∷ us) x h =
    let at : suc (suc (length us)) - 1 ≡ suc (suc (length us) - 1) = omega (arith) in
    last_some u.schema (v ∷ us) x (sym (ap (slice_get (u ∷ v ∷ us)) at) ∙ h)
