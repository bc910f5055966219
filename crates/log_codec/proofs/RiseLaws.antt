-- What the test of rising keys tells.
use Rattle.std.proofs.Common.{◌≡◌, List, [], ◌∷◌, Some, refl, subst, sym, true}
use Rattle.std.proofs.lemmas.Bool.{and_from, and_parts}
use Rattle.std.specs.Cmp.{IsTotalOrder}
use Rattle.std.specs.List.{AllByRecursion}
use Rattle.std.specs.List.Sorted.{IsStrictlySortedBy}
use Rattle.std.specs.Ordering.{is_lt}
use Rattle.std.specs.Prelude.{◌&&◌}
use Rattle.std.specs.declared.cmp.Ordering.TheVariants.{Equal, Greater, Less}
use Rattle.std.specs.declared.cmp.Ordering.{Ordering}
use Rattle.log_codec.specs.Grammar.{rise, rise_from}

less : (o : Ordering) → is_lt o ≡ true → o ≡ Less
less Less h = refl
less Equal h = cc
less Greater h = cc

module _ {K : Type 0} (cmp : K → K → Ordering) (order : IsTotalOrder cmp) where
  below_all : (x y : K) (xs : List K) → cmp x y ≡ Less → AllByRecursion (λ z. cmp y z ≡ Less) xs → AllByRecursion (λ z. cmp x z ≡ Less) xs
  below_all x y [] l h = tt
  below_all x y (z ∷ zs) l h = (order.trans x y z l h.0, below_all x y zs l h.1)

  behind : (x : K) (xs : List K) → rise_from cmp (Some x) xs ≡ true → AllByRecursion (λ y. cmp x y ≡ Less) xs × IsStrictlySortedBy cmp xs
  unfolding IsStrictlySortedBy
  behind x [] h = (tt, tt)
  behind x (y ∷ ys) h =
      let p = and_parts (is_lt (cmp x y)) (rise_from cmp (Some y) ys) h in
      let l : cmp x y ≡ Less = less (cmp x y) p.0 in
      let q = behind y ys p.1 in
      ((l, below_all x y ys l q.0), (q.0, q.1))

  pub sorted_from_rise : (xs : List K) → rise cmp xs ≡ true → IsStrictlySortedBy cmp xs
  unfolding IsStrictlySortedBy
  sorted_from_rise [] h = tt
  sorted_from_rise (x ∷ xs) h = let q = behind x xs h in (q.0, q.1)

  rises : (x : K) (xs : List K) → AllByRecursion (λ y. cmp x y ≡ Less) xs → IsStrictlySortedBy cmp xs → rise_from cmp (Some x) xs ≡ true
  unfolding IsStrictlySortedBy
  rises x [] a h = refl
  rises x (y ∷ ys) a h = and_from (is_lt (cmp x y)) (rise_from cmp (Some y) ys) (subst (λ (o : Ordering). is_lt o ≡ true) (sym a.0) refl) (rises y ys h.0 h.1)

  pub rise_from_sorted : (xs : List K) → IsStrictlySortedBy cmp xs → rise cmp xs ≡ true
  unfolding IsStrictlySortedBy
  rise_from_sorted [] h = refl
  rise_from_sorted (x ∷ xs) h = rises x xs h.0 h.1
