-- That an object none of whose owners is due can be brought to its map's epoch unseen.
use Rattle.std.proofs.Common.{◌≡◌, ◌≤◌, arith, Bool, true, false, cond, ℕ, zero, suc, Option, Some, None, option_map, refl, ap, sym, ◌∙◌, subst}
use Rattle.std.proofs.lemmas.Cmp.{eq_by_cmp_equiv}
use Rattle.std.proofs.lemmas.Map.Views.{tells_apart}
use Rattle.std.proofs.lemmas.Bool.{both_ways}
use Rattle.thor_value.proofs.FiniteMap.{IsSorted-insert, get-insert}
use Rattle.thor_value.proofs.NameOrders.{oref_exact, oref_total}
use Rattle.thor_value.specs.FiniteMap.{IsSorted, Map, get, insert}
use Rattle.thor_value.specs.Names.{oref_cmp, same_oref}
use Rattle.thor_value.specs.declared.names.Oref.{Oref}
use Rattle.thor_value.specs.declared.values.Obj.{Obj}
use Rattle.law_lazy_upgrade.proofs.Locality.{down_one, value_local}
use Rattle.law_lazy_upgrade.proofs.Moving.{same_each}
use Rattle.law_lazy_upgrade.proofs.Shrinking.{value_early}
use Rattle.class_defs.proofs.Levels.{due_is}
use Rattle.law_lazy_upgrade.proofs.Values.{value_stays}
use Rattle.class_defs.specs.Eager.{brought, eager, value}
use Rattle.class_defs.specs.KeptOwnership.{AllKeepClasses}
use Rattle.class_defs.specs.Levels.{is_due}
use Rattle.class_defs.specs.Ownership.{IsAbove}
use Rattle.class_defs.specs.Stored.{Objects, Stored}
use Rattle.class_defs.specs.WellOwned.{IsWellOwned}
use Rattle.class_defs.specs.declared.store.Object.{Object}
use Rattle.class_defs.specs.declared.store.Schemas.{Schemas}

pub value_below : (s : Schemas) (L : Stored) (m : Objects) (x : Oref) (o : Obj) (k : ℕ) → AllKeepClasses s L.epoch → IsWellOwned s L
    → get L.objects x ≡ Some o → k ≤ L.epoch → ((n : ℕ) (z : Oref) → IsAbove s L.objects n x z → get L.objects z ≡ get m z)
    → value s L.objects k o ≡ value s m k o
value_below s L m x o k keeps owned is within same =
    value_local s L.epoch keeps L.objects m (λ z. (n : ℕ) × IsAbove s L.objects n x z) (λ z h. same h.0 z h.1)
    (λ y i z h w. (suc h.0, down_one s L.objects h.0 x y z i h.1 w)) owned.declared owned.levels k within x o (zero, refl) is

module _ (s : Schemas) (L : Stored) (x : Oref) (o : Obj) (keeps : AllKeepClasses s L.epoch) (owned : IsWellOwned s L) (is : get L.objects x ≡ Some o)
    (undue : (n : ℕ) (a : Oref) (p : Obj) → IsAbove s L.objects (suc n) a x → get L.objects a ≡ Some p → is_due s L.epoch p ≡ false) where
  -- the map in which the object was brought
  abbrev behind : Objects
  behind = insert L.objects x (brought s L o)

  pub behind_at : (y : Oref) (b : Bool) → same_oref y x ≡ b → get behind y ≡ cond b (Some (brought s L o)) (get L.objects y)
  behind_at y b h = get-insert oref_total L.objects x (brought s L o) y ∙ ap (λ c. cond c (Some (brought s L o)) (get L.objects y)) h

  itself : (y : Oref) → y ≡ x → same_oref y x ≡ true
  itself y h = subst (λ w. same_oref y w ≡ true) h ((eq_by_cmp_equiv oref_total).refl y)

  -- what isn't above the object
  abbrev NotAbove : Oref → Type 0
  NotAbove y = (n : ℕ) → ¬ IsAbove s L.objects n y x

  apart : (y : Oref) (b : Bool) → same_oref y x ≡ b → NotAbove y → get L.objects y ≡ get behind y
  apart y true h q = absurd (q zero (tells_apart oref_exact y x h))
  apart y false h q = sym (behind_at y false h)

  due_is_not_above : (y : Oref) (p : Obj) → get L.objects y ≡ Some p → same_oref y x ≡ false → is_due s L.epoch p ≡ true → NotAbove y
  due_is_not_above y p t h d zero a = both_ways (same_oref y x) h (itself y a)
  due_is_not_above y p t h d (suc n) a = both_ways (is_due s L.epoch p) (undue n y p a t) d

  other : (y : Oref) (p : Obj) → get L.objects y ≡ Some p → same_oref y x ≡ false → (d : Bool) → is_due s L.epoch p ≡ d
      → value s behind L.epoch p ≡ value s L.objects L.epoch p
  other y p t h true d =
      sym (value_local s L.epoch keeps L.objects behind NotAbove (λ z q. apart z (same_oref z x) refl q)
      (λ z i w q owns n a. q (suc n) (w, (i, (owns, a)))) owned.declared owned.levels L.epoch (omega arith) y p (due_is_not_above y p t h d) t)
  other y p t h false d =
      let lag = sym (due_is s L.epoch p) ∙ d in
      value_stays s behind L.epoch p lag ∙ sym (value_stays s L.objects L.epoch p lag)

  other_at : (y : Oref) (p : Option Obj) → get L.objects y ≡ p → same_oref y x ≡ false
      → option_map (value s behind L.epoch) p ≡ option_map (value s L.objects L.epoch) p
  other_at y None t h = refl
  other_at y (Some p) t h = ap Some (other y p t h (is_due s L.epoch p) refl)

  alike : (y : Oref) (b : Bool) → same_oref y x ≡ b
      → option_map (value s behind L.epoch) (get behind y) ≡ option_map (value s L.objects L.epoch) (get L.objects y)
  alike y true h =
      ap (option_map (value s behind L.epoch)) (behind_at y true h)
      ∙ ap Some (value_early s behind L.epoch (brought s L o) (omega arith))
      ∙ ap (option_map (value s L.objects L.epoch)) (sym (subst (λ w. get L.objects w ≡ Some o) (sym (tells_apart oref_exact y x h)) is))
  alike y false h = ap (option_map (value s behind L.epoch)) (behind_at y false h) ∙ other_at y (get L.objects y) refl h

  -- what the map stands for is as it was
  pub unseen : IsSorted L.objects → eager s (record L { objects = behind }) ≡ eager s L
  unseen sorted =
      ap (λ (m : Map oref_cmp Object). record { objects = m; epoch = L.epoch; roots = L.roots })
      (same_each (value s behind L.epoch) (value s L.objects L.epoch) behind L.objects (IsSorted-insert oref_total L.objects x (brought s L o) sorted) sorted
      (λ y. alike y (same_oref y x) refl))
