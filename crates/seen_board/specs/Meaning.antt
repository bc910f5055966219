-- What the items of the histories and the calls of the clients mean to each other. Whoever makes a
-- board says it. This project's.
use Rattle.std.specs.Prelude.{◌≡◌, ℕ, zero, suc, Option, Some, List, [], ◌∷◌, ◌++◌, slice_get}
use Rattle.std.proofs.Common.{subst}
use Rattle.std.proofs.lemmas.Option.{none-some}
use mathlib.Core.List.{IsPrefix}

pub record Meaning (I C : Type 0) : Type 1 where
  -- the call makes the item at this place of this repository's history
  pub makes : C → ℕ → ℕ → I → Type 0
  -- behind these items, the item needs no call
  pub free : List I → I → Type 0
  -- behind these items, the client that the item shows
  pub shows : List I → I → Option ℕ
  -- the histories, one for each repository, justify the call
  pub justified : (ℕ → List I) → C → Type 0

-- The one law: what histories justify they still justify when any of them has grown at its end
abbrev pub Lasts : {I C : Type 0} → Meaning I C → Type 0
Lasts {I} {C} w = (ls ms : ℕ → List I) (c : C) → ((r : ℕ) → IsPrefix (ls r) (ms r)) → w.justified ls c → w.justified ms c

-- What stands at a place of a history stays there. The law of most namings follows from this alone
module _ {A : Type 0} where
  stands_in_front : (xs ys : List A) (place : ℕ) (x : A) → slice_get xs place ≡ Some x → slice_get (xs ++ ys) place ≡ Some x
  stands_in_front [] ys place x e = absurd (none-some x e)
  stands_in_front (y ∷ xs) ys zero x e = e
  stands_in_front (y ∷ xs) ys (suc place) x e = stands_in_front xs ys place x e

  pub stays_at : (xs ys : List A) (place : ℕ) (x : A) → IsPrefix xs ys → slice_get xs place ≡ Some x → slice_get ys place ≡ Some x
  stays_at xs ys place x begins e = subst (λ (l : List A). slice_get l place ≡ Some x) begins.1 (stands_in_front xs begins.0 place x e)
