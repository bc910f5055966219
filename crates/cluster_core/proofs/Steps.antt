-- What is left for all clients, where one of them has moved.
use Rattle.std.proofs.Common.{List, [], ap, arith, slice_index_or, slice_set, suc, zero, ℕ, ◌<◌, ◌≡◌, ◌∷◌}
use Rattle.std.proofs.lemmas.List.Sums.{sum_by-cons}
use Rattle.std.specs.List.{sum_by}
use Rattle.std.specs.Prelude.{length}

-- one element counts less than before
pub one_less : {X : Type 0} (f : X → ℕ) (xs : List X) (n : ℕ) (x y : X) → n < length xs → x ≡ slice_index_or xs n x → f y < f x → sum_by f (slice_set xs n y) < sum_by f xs
one_less f [] n x y within there less = absurd (omega (arith, within))
one_less f (z ∷ zs) zero x y within there less = let a = sum_by-cons f y zs in let b = sum_by-cons f z zs in let e = ap f there in omega (arith, a, b, e, less)
one_less f (z ∷ zs) (suc n) x y within there less = let a = sum_by-cons f z (slice_set zs n y) in let b = sum_by-cons f z zs in let i = one_less f zs n x y (omega (arith, within)) there less in omega (arith, a, b, i)

-- an element that stays as it was counts as before
pub as_many : {X : Type 0} (f : X → ℕ) (xs : List X) (n : ℕ) (x y : X) → n < length xs → x ≡ slice_index_or xs n x → y ≡ x → sum_by f (slice_set xs n y) ≡ sum_by f xs
as_many f [] n x y within there same = absurd (omega (arith, within))
as_many f (z ∷ zs) zero x y within there same = let a = sum_by-cons f y zs in let b = sum_by-cons f z zs in let e = ap f there in let i = ap f same in omega (arith, a, b, e, i)
as_many f (z ∷ zs) (suc n) x y within there same = let a = sum_by-cons f z (slice_set zs n y) in let b = sum_by-cons f z zs in let i = as_many f zs n x y (omega (arith, within)) there same in omega (arith, a, b, i)
