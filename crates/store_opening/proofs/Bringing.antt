-- Objects put by the names of a map are its objects with their values.
use Rattle.class_defs.specs.Eager.{value, values}
use Rattle.class_defs.specs.Stored.{Objects}
use Rattle.class_defs.specs.declared.store.Object.{Object}
use Rattle.class_defs.specs.declared.store.Schemas.{Schemas}
use Rattle.serial_model.proofs.SortedMaps.{found_all, order_kept, put_all}
use Rattle.serial_model.specs.Whole.{found}
use Rattle.repo_opening.proofs.Paging.{get_or-same}
use Rattle.std.proofs.Common.{List, None, Option, Some, [], ap, get_or, length, map, refl, subst, sym, take, ℕ, ◌++◌, ◌+◌, ◌<◌, ◌∙◌, ◌≡◌, ◌∷◌}
use Rattle.std.specs.List.Sorted.{IsStrictlySortedBy}
use Rattle.store_opening.proofs.Joining.{fold_next}
use Rattle.std.specs.List.{flat_map}
use Rattle.store_opening.specs.Bringing.{with_all, with_found, with_one}
use Rattle.thor_value.proofs.NameOrders.{oref_total}
use Rattle.thor_value.specs.FiniteMap.{IsSorted, Map, empty, get, keys, overwrite}
use Rattle.thor_value.specs.Names.{oref_cmp}
use Rattle.thor_value.specs.declared.names.Oref.{Oref}
use Rattle.thor_value.specs.declared.values.Obj.{Obj}

-- the map that has no name is in order
pub none_sorted : {X : Type 0} (m : Map oref_cmp X) → m ≡ empty → IsSorted m
unfolding IsStrictlySortedBy
none_sorted {X} m is = subst (λ (n : Map oref_cmp X). IsSorted n) (sym is) tt

module _ (s : Schemas) (m : Objects) (k : ℕ) where
  abbrev at_epoch : Oref × Obj → Oref × Object
  at_epoch p = (p.0, value s m k p.1)

  abbrev found_at : Oref → List (Oref × Obj)
  found_at x = found x (get m x)

  one_put : (made : Map oref_cmp Object) (x : Oref) (o : Option Obj) (rest : List (Oref × Obj)) → overwrite made (map at_epoch (found x o ++ rest)) ≡ overwrite (with_found (value s m k) made x o) (map at_epoch rest)
  one_put made x (Some o) rest = refl
  one_put made x None rest = refl

  all_put : (names : List Oref) (made : Map oref_cmp Object) → with_all s m k made names ≡ overwrite made (map at_epoch (flat_map found_at names))
  all_put [] made = refl
  all_put (x ∷ names) made = all_put names (with_one s m k made x) ∙ sym (one_put made x (get m x) (flat_map found_at names))

  -- all names of a map whose names rise
  pub whole_put : IsSorted m → with_all s m k empty (keys m) ≡ values s m k
  whole_put sorted =
      all_put (keys m) empty
      ∙ (ap (λ ps. overwrite empty (map at_epoch ps)) (found_all oref_total m.pairs sorted)
      ∙ put_all oref_total (map at_epoch m.pairs) (order_kept oref_cmp (λ p. value s m k p.1) m.pairs (map at_epoch m.pairs) refl sorted))

  -- one name more
  pub put_next : (first before now : Map oref_cmp Object) (names : List Oref) (i : ℕ) (d : Oref) → i < length names → before ≡ with_all s m k first (take i names) → now ≡ with_one s m k before (get_or names i d) → now ≡ with_all s m k first (take (i + 1) names)
  put_next first before now names i d within so_far is = is ∙ (ap (λ (n : Map oref_cmp Object). with_one s m k n (get_or names i d)) so_far ∙ sym (fold_next (with_one s m k) first names i (get_or names i d) within (get_or-same names i d within)))
