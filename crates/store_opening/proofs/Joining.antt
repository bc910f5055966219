-- What loops over lists fold.
use Rattle.repo_opening.proofs.Paging.{next_first}
use Rattle.std.proofs.Common.{Bool, List, Some, [], ap, get_or, length, map, slice_get, subst, suc, sym, take, zero, ℕ, ◌++◌, ◌+◌, ◌<◌, ◌∙◌, ◌≡◌, ◌∷◌, arith}
use Rattle.std.proofs.lemmas.List.Elements.{filter-append}
use Rattle.std.proofs.Common.{append_assoc}
use Rattle.std.proofs.lemmas.List.Sums.{fold-append}
use Rattle.std.proofs.lemmas.List.{map-append}
use Rattle.std.specs.List.{AllByRecursion, filter, fold}

-- one more is folded
pub fold_next : {X B : Type 0} (f : B → X → B) (b : B) (xs : List X) (i : ℕ) (x : X) → i < length xs → x ≡ get_or xs i x → fold f b (take (i + 1) xs) ≡ f (fold f b (take i xs)) x
fold_next f b xs i x within is = ap (fold f b) (next_first xs i x within is) ∙ fold-append f b (take i xs) (x ∷ [])

pub fold_more : {X Y B : Type 0} (f : B → Y → B) (b : B) (g : X → Y) (xs : List X) (i : ℕ) (x : X) → i < length xs → x ≡ get_or xs i x → fold f b (map g (take (i + 1) xs)) ≡ f (fold f b (map g (take i xs))) (g x)
fold_more f b g xs i x within is = ap (λ ys. fold f b (map g ys)) (next_first xs i x within is) ∙ (ap (fold f b) (map-append g (take i xs) (x ∷ [])) ∙ fold-append f b (map g (take i xs)) (g x ∷ []))

-- what is kept of all is kept of one
pub at_place : {X : Type 0} (P : X → Type 0) (xs : List X) (i : ℕ) (x : X) → AllByRecursion P xs → slice_get xs i ≡ Some x → P x
at_place P [] i x all is = cc
at_place P (y ∷ xs) zero x all is = let same : y ≡ x = cc in subst P same all.0
at_place P (y ∷ xs) (suc i) x all is = at_place P xs i x all.1 is

pub in_loop : {X : Type 0} (P : X → Type 0) (xs : List X) (i : ℕ) (x : X) → AllByRecursion P xs → i < length xs → x ≡ get_or xs i x → P x
in_loop P [] i x all within is = absurd (omega (arith, within))
in_loop P (y ∷ xs) zero x all within is = subst P (sym is) all.0
in_loop P (y ∷ xs) (suc i) x all within is = in_loop P xs i x all.1 (omega (arith, within)) is

-- what a test lets through, one more
pub filter_on : {X : Type 0} (p : X → Bool) (before now left rest : List X) (x : X) (all : List X) → before ++ filter p left ≡ all → left ≡ x ∷ rest → now ≡ before ++ filter p (x ∷ []) → now ++ filter p rest ≡ all
filter_on p before now left rest x all whole next more = ap (λ ys. ys ++ filter p rest) more ∙ (append_assoc before (filter p (x ∷ [])) (filter p rest) ∙ (ap (λ ys. before ++ ys) (sym (filter-append p (x ∷ []) rest) ∙ ap (filter p) (sym next)) ∙ whole))
