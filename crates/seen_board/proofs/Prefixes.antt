-- Beginnings of one list, the longer of two, and what stands at a place.
use Rattle.std.proofs.Common.{◌≡◌, ℕ, zero, suc, ◌≤◌, Bool, true, false, cond, leb, List, [], ◌∷◌, ◌++◌, length, Some, slice_get, refl, ap, sym, ◌∙◌, subst, arith, append_assoc, length-append, ◌⊎◌, inl, inr, ⊎_elim}
use Rattle.std.proofs.lemmas.Bool.{leb-true, leb-false, le-leb, lt-leb}
use mathlib.Core.List.{IsPrefix}
use Rattle.seen_board.specs.Rows.{longer}

module _ {A : Type 0} where
  pub prefix_nil : (xs : List A) → IsPrefix [] xs
  prefix_nil xs = (xs, refl)

  pub prefix_self : (xs : List A) → IsPrefix xs xs
  prefix_self [] = ([], refl)
  prefix_self (x ∷ xs) = (let r = prefix_self xs in r.0, ap (λ ys. x ∷ ys) (prefix_self xs).1)

  pub prefix_same : (xs ys : List A) → xs ≡ ys → IsPrefix xs ys
  prefix_same xs ys e = subst (λ (zs : List A). IsPrefix xs zs) e (prefix_self xs)

  pub prefix_trans : (xs ys zs : List A) → IsPrefix xs ys → IsPrefix ys zs → IsPrefix xs zs
  prefix_trans xs ys zs p q = (p.0 ++ q.0, sym (append_assoc xs p.0 q.0) ∙ (ap (λ w. w ++ q.0) p.1 ∙ q.1))

  -- a beginning stays one when the list grows
  pub prefix_more : (xs ys zs : List A) → IsPrefix xs ys → IsPrefix xs (ys ++ zs)
  prefix_more xs ys zs p = (p.0 ++ zs, sym (append_assoc xs p.0 zs) ∙ ap (λ w. w ++ zs) p.1)

  -- of two beginnings of one list the shorter begins the longer
  pub prefix_shorter : (xs ys zs : List A) → IsPrefix xs zs → IsPrefix ys zs → length xs ≤ length ys → IsPrefix xs ys
  prefix_shorter [] ys zs p q le = (ys, refl)
  prefix_shorter (x ∷ xs) [] zs p q le = absurd (omega arith)
  prefix_shorter (x ∷ xs) (y ∷ ys) [] p q le = absurd (cc (p.1))
  prefix_shorter (x ∷ xs) (y ∷ ys) (z ∷ zs) p q le =
      let heads : x ≡ y = cc (p.1, q.1) in
      let rest = prefix_shorter xs ys zs (p.0, cc (p.1)) (q.0, cc (q.1)) (omega arith) in
      (rest.0, cc (heads, rest.1))

  -- a beginning as long as the whole is the whole
  pub prefix_whole : (xs ys : List A) → IsPrefix xs ys → length ys ≤ length xs → xs ≡ ys
  prefix_whole [] [] p le = refl
  prefix_whole [] (y ∷ ys) p le = absurd (omega arith)
  prefix_whole (x ∷ xs) [] p le = absurd (cc (p.1))
  prefix_whole (x ∷ xs) (y ∷ ys) p le =
      let rest = prefix_whole xs ys (p.0, cc (p.1)) (omega arith) in cc (p.1, rest)

  pub prefix_length : (xs ys : List A) → IsPrefix xs ys → length xs ≤ length ys
  prefix_length xs ys p = omega (arith, sym (ap length p.1) ∙ length-append xs p.0)

  either_in : (b : Bool) (xs ys zs : List A) → IsPrefix xs zs → IsPrefix ys zs → IsPrefix (cond b ys xs) zs
  either_in true xs ys zs p q = q
  either_in false xs ys zs p q = p

  -- of two beginnings the longer is one
  pub longer_in : (xs ys zs : List A) → IsPrefix xs zs → IsPrefix ys zs → IsPrefix (longer xs ys) zs
  longer_in xs ys zs p q = either_in (leb (length xs) (length ys)) xs ys zs p q

  first_in : (b : Bool) (xs ys zs : List A) → leb (length xs) (length ys) ≡ b → IsPrefix xs zs → IsPrefix ys zs → IsPrefix xs (cond b ys xs)
  first_in true xs ys zs is p q = prefix_shorter xs ys zs p q (leb-true _ _ is)
  first_in false xs ys zs is p q = prefix_self xs

  -- and both begin it
  pub longer_first : (xs ys zs : List A) → IsPrefix xs zs → IsPrefix ys zs → IsPrefix xs (longer xs ys)
  longer_first xs ys zs p q = first_in (leb (length xs) (length ys)) xs ys zs refl p q

  second_in : (b : Bool) (xs ys zs : List A) → leb (length xs) (length ys) ≡ b → IsPrefix xs zs → IsPrefix ys zs → IsPrefix ys (cond b ys xs)
  second_in true xs ys zs is p q = prefix_self ys
  second_in false xs ys zs is p q = let less = leb-false (length xs) (length ys) is in prefix_shorter ys xs zs q p (omega arith)

  pub longer_second : (xs ys zs : List A) → IsPrefix xs zs → IsPrefix ys zs → IsPrefix ys (longer xs ys)
  longer_second xs ys zs p q = second_in (leb (length xs) (length ys)) xs ys zs refl p q

  whole_in : (b : Bool) (xs ys zs : List A) → leb (length xs) (length ys) ≡ b → xs ≡ zs → IsPrefix ys zs → cond b ys xs ≡ zs
  whole_in true xs ys zs is e q = let le = leb-true (length xs) (length ys) is in let same = ap length e in prefix_whole ys zs q (omega arith)
  whole_in false xs ys zs is e q = e

  -- of the whole and a beginning the longer is the whole
  pub longer_whole : (xs ys zs : List A) → xs ≡ zs → IsPrefix ys zs → longer xs ys ≡ zs
  longer_whole xs ys zs e q = whole_in (leb (length xs) (length ys)) xs ys zs refl e q

  pub longer_nil : (xs : List A) → longer xs [] ≡ xs
  longer_nil [] = refl
  longer_nil (x ∷ xs) = ap (λ b. cond b [] (x ∷ xs)) (lt-leb (length (x ∷ xs)) 0 (omega arith))

  pub nil_longer : (ys : List A) → longer [] ys ≡ ys
  nil_longer ys = ap (λ b. cond b ys []) (le-leb 0 (length ys) (omega arith))

  second_whole_in : (b : Bool) (xs ys zs : List A) → leb (length xs) (length ys) ≡ b → IsPrefix xs zs → ys ≡ zs → cond b ys xs ≡ zs
  second_whole_in true xs ys zs is p e = e
  second_whole_in false xs ys zs is p e = let less = leb-false (length xs) (length ys) is in let same = ap length e in prefix_whole xs zs p (omega (arith, less, same))

  pub longer_whole_second : (xs ys zs : List A) → IsPrefix xs zs → ys ≡ zs → longer xs ys ≡ zs
  longer_whole_second xs ys zs p e = second_whole_in (leb (length xs) (length ys)) xs ys zs refl p e

  pub longer_prefix : (xs ys : List A) → IsPrefix xs ys → longer xs ys ≡ ys
  longer_prefix xs ys p = ap (λ b. cond b ys xs) (le-leb (length xs) (length ys) (prefix_length xs ys p))

  -- each begins the other
  pub prefix_both : (xs ys : List A) → IsPrefix xs ys → IsPrefix ys xs → xs ≡ ys
  prefix_both xs ys p q = prefix_whole xs ys p (prefix_length ys xs q)

  pub get_here : (xs : List A) (x : A) → slice_get (xs ++ x ∷ []) (length xs) ≡ Some x
  get_here [] x = refl
  get_here (y ∷ xs) x = get_here xs x

  pub get_push : (xs : List A) (x y : A) (i : ℕ) → slice_get (xs ++ x ∷ []) i ≡ Some y → (slice_get xs i ≡ Some y) ⊎ ((i ≡ length xs) × (x ≡ y))
  get_push [] x y zero e = inr (refl, cc e)
  get_push [] x y (suc i) e = absurd (cc e)
  get_push (z ∷ xs) x y zero e = inl e
  get_push (z ∷ xs) x y (suc i) e = ⊎_elim (λ h. inl h) (λ (h : (i ≡ length xs) × (x ≡ y)). inr (ap suc h.0, h.1)) (get_push xs x y i e)
