-- Rows of lists, and lists of numbers. A row goes on for ever: behind its last entry stands the same
-- entry again and again.
use Rattle.std.specs.Prelude.{◌≡◌, ℕ, zero, suc, Bool, false, ◌||◌, ◌==◌, leb, cond, List, [], ◌∷◌, ◌++◌, length, Some, slice_get}
use mathlib.Core.List.{IsPrefix}

module _ {A : Type 0} where
  -- the row with x at a place, where d stands behind its end
  abbrev pub put : A → List A → ℕ → A → List A
  put d [] zero x = x ∷ []
  put d [] (suc r) x = d ∷ put d [] r x
  put d (y ∷ ys) zero x = x ∷ ys
  put d (y ∷ ys) (suc r) x = y ∷ put d ys r x

  -- the longer of two lists
  abbrev pub longer : List A → List A → List A
  longer xs ys = cond (leb (length xs) (length ys)) ys xs

  -- the longer list at each place
  abbrev pub longers : List (List A) → List (List A) → List (List A)
  longers [] yss = yss
  longers (xs ∷ xss) [] = xs ∷ xss
  longers (xs ∷ xss) (ys ∷ yss) = longer xs ys ∷ longers xss yss

  -- the longer of two lists, both of which begin it
  pub record IsLonger (xs ys kept : List A) : Type 0 where
    pub longer : kept ≡ longer xs ys
    pub first : IsPrefix xs kept
    pub second : IsPrefix ys kept

-- P holds of each element, with its place
abbrev pub EachOf : {A : Type 0} → (ℕ → A → Type 0) → List A → Type 0
EachOf {A} P xs = (i : ℕ) (x : A) → slice_get xs i ≡ Some x → P i x

-- of a list that is taken from its end, what was taken meets P
abbrev pub Taken : {A : Type 0} → (A → Type 0) → List A → List A → Type 0
Taken {A} P left all = (done : List A) × (left ++ done ≡ all) × EachOf (λ _ x. P x) done

-- the number stands in the list
abbrev pub among : ℕ → List ℕ → Bool
among r [] = false
among r (x ∷ xs) = (x == r) || among r xs

-- n numbers from a on
abbrev pub from : ℕ → ℕ → List ℕ
from zero a = []
from (suc n) a = a ∷ from n (suc a)

-- the first of a list alone, and the others
abbrev pub first_of : List ℕ → List ℕ
first_of [] = []
first_of (x ∷ xs) = x ∷ []

abbrev pub rest_of : List ℕ → List ℕ
rest_of [] = []
rest_of (x ∷ xs) = xs
