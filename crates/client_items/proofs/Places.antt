-- What stands at a place of a list that has grown, or of which one place is set.
use Rattle.std.proofs.Common.{List, [], ap, inl, inr, length, refl, suc, sym, zero, ℕ, ◌++◌, ◌≡◌, ◌∷◌}
use Rattle.std.proofs.lemmas.Option.{same_Some}
use Rattle.std.specs.List.{slice_get}
use Rattle.std.specs.Prelude.{Some, slice_set, ◌⊎◌}

-- an element of a list with one more is of the list, or it is that one
pub end_cases : {X : Type 0} (xs : List X) (y x : X) (k : ℕ) → slice_get (xs ++ y ∷ []) k ≡ Some x → (slice_get xs k ≡ Some x) ⊎ ((k ≡ length xs) × (x ≡ y))
end_cases [] y x zero h = inr (refl, same_Some x y (sym h))
end_cases [] y x (suc k) h = cc
end_cases (z ∷ xs) y x zero h = inl h
end_cases (z ∷ xs) y x (suc k) h = elim (end_cases xs y x k h) [
  | inl p ↦ inl p
  | inr p ↦ inr (ap suc p.0, p.1)
]

-- an element of a list of which one place is set stood there, or it is that one
pub set_cases : {X : Type 0} (xs : List X) (i : ℕ) (y x : X) (k : ℕ) → slice_get (slice_set xs i y) k ≡ Some x → (slice_get xs k ≡ Some x) ⊎ ((k ≡ i) × (x ≡ y))
set_cases [] zero y x k h = inl h
set_cases [] (suc i) y x k h = inl h
set_cases (z ∷ xs) zero y x zero h = inr (refl, same_Some x y (sym h))
set_cases (z ∷ xs) zero y x (suc k) h = inl h
set_cases (z ∷ xs) (suc i) y x zero h = inl h
set_cases (z ∷ xs) (suc i) y x (suc k) h = elim (set_cases xs i y x k h) [
  | inl p ↦ inl p
  | inr p ↦ inr (ap suc p.0, p.1)
]

pub end_length : {X : Type 0} (xs : List X) (y : X) → length (xs ++ y ∷ []) ≡ suc (length xs)
end_length [] y = refl
end_length (z ∷ xs) y = ap suc (end_length xs y)
