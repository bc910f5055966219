-- One walk over two lists of names that rise finds the least name that both have.
use Rattle.std.proofs.Common.{◌≡◌, Bool, List, [], ◌∷◌, ap, find, length, map, refl, ◌∙◌, cond, false}
use Rattle.std.proofs.lemmas.List.{map-id}
use Rattle.std.specs.List.Sorted.{IsStrictlySortedBy}
use Rattle.std.specs.List.{AllByRecursion}
use Rattle.std.specs.Ordering.{ordering_reverse}
use Rattle.std.specs.Prelude.{None, Some}
use Rattle.std.specs.declared.cmp.Ordering.TheVariants.{Equal, Greater, Less}
use Rattle.thor_value.proofs.NameOrders.{oref_total}
use Rattle.thor_value.specs.Names.{oref_cmp}
use Rattle.thor_value.specs.declared.names.Oref.{Oref}
use Rattle.validation_queue.proofs.Ordered.{below_all}
use Rattle.validation_queue.specs.Names.{Rises, is_among}

-- a name that is below all of some names isn't among them
pub not_among : (x : Oref) (ys : List Oref) → AllByRecursion (λ y. oref_cmp x y ≡ Less) ys → is_among ys x ≡ false
not_among x [] h = refl
not_among x (y ∷ ys) h = let e : oref_cmp x y ≡ Less = h.0 in rw e (not_among x ys h.1)

-- names that are above a name don't look at it
above : (y : Oref) (ys zs : List Oref) → AllByRecursion (λ z. oref_cmp y z ≡ Less) zs → find (is_among (y ∷ ys)) zs ≡ find (is_among ys) zs
above y ys [] h = refl
above y ys (z ∷ zs) h =
    let e : oref_cmp z y ≡ Greater = oref_total.antisymm z y ∙ ap ordering_reverse h.0 in
    rw (e, above y ys zs h.1) refl

none_right : (xs : List Oref) → find (is_among []) xs ≡ None
none_right [] = refl
none_right (x ∷ xs) = none_right xs

pub walk_out : (xs ys : List Oref) → length ys ≡ 0 → find (is_among ys) xs ≡ None
walk_out xs [] e = none_right xs
walk_out xs (y ∷ ys) e = cc

module _ (x y : Oref) (xs ys : List Oref) where
  pub walk_less : oref_cmp x y ≡ Less → Rises (y ∷ ys) → find (is_among (y ∷ ys)) (x ∷ xs) ≡ find (is_among (y ∷ ys)) xs
  unfolding IsStrictlySortedBy
  walk_less e h = ap (λ (t : Bool). cond t (Some x) (find (is_among (y ∷ ys)) xs)) (not_among x (y ∷ ys) (e, below_all x y ys e h.0))

  pub walk_equal : oref_cmp x y ≡ Equal → find (is_among (y ∷ ys)) (x ∷ xs) ≡ Some x
  walk_equal e = rw e refl

  pub walk_greater : oref_cmp x y ≡ Greater → Rises (x ∷ xs) → find (is_among (y ∷ ys)) (x ∷ xs) ≡ find (is_among ys) (x ∷ xs)
  unfolding IsStrictlySortedBy
  walk_greater e h =
      let l : oref_cmp y x ≡ Less = oref_total.antisymm y x ∙ ap ordering_reverse e in
      above y ys (x ∷ xs) (l, below_all y x xs l h.0)

pub walk_end : (x : Oref) (xs : List Oref) → Rises (x ∷ xs) → Rises xs
unfolding IsStrictlySortedBy
walk_end x xs h = h.1

-- names go by themselves
pub names_of : (xs : List Oref) → map (λ x. x) xs ≡ xs
names_of xs = map-id xs
