-- What is left of a list from a place on, by its first element.
use Rattle.std.proofs.Common.{◌≡◌, ◌+◌, List, [], ◌∷◌, ℕ, zero, suc, drop, length, ◌≤◌, refl, ap, ◌∙◌, arith, slice_get, Some, None}
use Rattle.std.specs.Prelude.{unwrap_or}

pub dropped : {X : Type 0} (xs : List X) (i : ℕ) (x : X) → slice_get xs i ≡ Some x → drop i xs ≡ x ∷ drop (i + 1) xs
dropped [] i x h = cc
dropped (y ∷ ys) zero x h = ap (λ z. z ∷ ys) (ap (λ o. unwrap_or o y) h)
dropped (y ∷ ys) (suc i) x h = dropped ys i x h ∙ ap (λ k. x ∷ drop k (y ∷ ys)) (let e : suc (i + 1) ≡ suc i + 1 = omega arith in e)

pub all_dropped : {X : Type 0} (xs : List X) (i : ℕ) → length xs ≤ i → drop i xs ≡ []
all_dropped [] zero h = refl
all_dropped [] (suc i) h = refl
all_dropped (y ∷ ys) zero h = absurd (omega arith)
all_dropped (y ∷ ys) (suc i) h = all_dropped ys i (omega arith)

pub ruleset drops = (dropped, all_dropped)

pub none_there : {X : Type 0} (xs : List X) (i : ℕ) → slice_get xs i ≡ None → drop i xs ≡ []
none_there [] zero h = refl
none_there [] (suc i) h = refl
none_there (y ∷ ys) zero h = cc
none_there (y ∷ ys) (suc i) h = none_there ys i h
