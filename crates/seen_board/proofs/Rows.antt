-- What stands in a row after a change.
use Rattle.std.proofs.Common.{◌≡◌, ◌≢◌, ℕ, zero, suc, Bool, true, false, ◌||◌, ◌==◌, cond, eqb, List, [], ◌∷◌, ◌++◌, get_or, take, length, append_assoc, refl, ap, sym, ◌∙◌, subst, arith, eq-eqb, ne_eqb, ◌<◌, ◌⊎◌, inl, inr, ⊎_elim}
use Rattle.std.proofs.lemmas.Bool.{eqb-true}
use mathlib.Core.Logic.{dite}
use native.Mathlib.Decide.{ℕ_discrete}
use mathlib.Core.Option.{some, some-ne-none, some-injective}
use lib.ListN.{get_elem?}
use Rattle.seen_board.specs.Meaning.{stays_at}
use Rattle.seen_board.specs.Rows.{EachOf, Taken, put, longer, longers, among, from}
use Rattle.seen_board.proofs.Prefixes.{get_here, get_push, longer_nil, nil_longer}

module _ {A : Type 0} where
  pub put_here : (d : A) (ys : List A) (r : ℕ) (x : A) → get_or (put d ys r x) r d ≡ x
  put_here d [] zero x = refl
  put_here d [] (suc r) x = put_here d [] r x
  put_here d (y ∷ ys) zero x = refl
  put_here d (y ∷ ys) (suc r) x = put_here d ys r x

  pub put_else : (d : A) (ys : List A) (r q : ℕ) (x : A) → q ≢ r → get_or (put d ys r x) q d ≡ get_or ys q d
  put_else d [] zero zero x n = absurd (n refl)
  put_else d [] zero (suc q) x n = refl
  put_else d [] (suc r) zero x n = refl
  put_else d [] (suc r) (suc q) x n = put_else d [] r q x (λ e. n (ap suc e))
  put_else d (y ∷ ys) zero zero x n = absurd (n refl)
  put_else d (y ∷ ys) zero (suc q) x n = refl
  put_else d (y ∷ ys) (suc r) zero x n = refl
  put_else d (y ∷ ys) (suc r) (suc q) x n = put_else d ys r q x (λ e. n (ap suc e))

  pub at_longers : (xss yss : List (List A)) (r : ℕ) → get_or (longers xss yss) r [] ≡ longer (get_or xss r []) (get_or yss r [])
  at_longers [] yss r = sym (nil_longer (get_or yss r []))
  at_longers (xs ∷ xss) [] r = sym (longer_nil (get_or (xs ∷ xss) r []))
  at_longers (xs ∷ xss) (ys ∷ yss) zero = refl
  at_longers (xs ∷ xss) (ys ∷ yss) (suc r) = at_longers xss yss r

  -- a function, changed at one place
  abbrev pub at_place : (ℕ → A) → ℕ → A → ℕ → A
  at_place f r x q = cond (eqb q r) x (f q)

  pub at_here : (f : ℕ → A) (r : ℕ) (x : A) → at_place f r x r ≡ x
  at_here f r x = ap (λ b. cond b x (f r)) (eq-eqb r r refl)

  pub at_else : (f : ℕ → A) (r q : ℕ) (x : A) → q ≢ r → at_place f r x q ≡ f q
  at_else f r q x n = ap (λ b. cond b x (f q)) (ne_eqb q r n)

  -- what holds there and elsewhere holds everywhere
  pub at_each : (P : ℕ → A → Type 0) (f : ℕ → A) (r : ℕ) (x : A) → P r x → ((q : ℕ) → q ≢ r → P q (f q)) → (q : ℕ) → P q (at_place f r x q)
  at_each P f r x here else q = dite (ℕ_discrete q r)
      (λ e. subst (λ (k : ℕ). P k (at_place f r x k)) (sym e) (subst (P r) (sym (at_here f r x)) here))
      (λ n. subst (P q) (sym (at_else f r q x n)) (else q n))

pub zero_more : (xs : List ℕ) → ((r : ℕ) → get_or xs r 0 ≡ 0) → (r : ℕ) → get_or (0 ∷ xs) r 0 ≡ 0
zero_more xs h zero = refl
zero_more xs h (suc r) = h r

pub zero_take : (n : ℕ) (xs : List ℕ) → ((r : ℕ) → get_or xs r 0 ≡ 0) → (r : ℕ) → get_or (take n xs) r 0 ≡ 0
zero_take zero xs h r = refl
zero_take (suc n) [] h r = refl
zero_take (suc n) (x ∷ xs) h zero = h zero
zero_take (suc n) (x ∷ xs) h (suc r) = zero_take n xs (λ q. h (suc q)) r

module _ {A : Type 0} where
  pub at_end : (l : List A) (a b : A) (j : ℕ) → get_elem? (l ++ a ∷ []) j ≡ some b → (get_elem? l j ≡ some b) ⊎ ((j ≡ length l) × (a ≡ b))
  at_end [] a b zero e = inr (refl, some-injective a b e)
  at_end [] a b (suc j) e = absurd (some-ne-none b (sym e))
  at_end (x ∷ xs) a b zero e = inl e
  at_end (x ∷ xs) a b (suc j) e = ⊎_elim (λ h. inl h) (λ (h : (j ≡ length xs) × (a ≡ b)). inr (ap suc h.0, h.1)) (at_end xs a b j e)

pub among-append : (r : ℕ) (xs ys : List ℕ) → among r (xs ++ ys) ≡ (among r xs || among r ys)
among-append r [] ys = refl
among-append r (x ∷ xs) ys = or_more (x == r) (among r xs) (among r ys) (among r (xs ++ ys)) (among-append r xs ys)
  where
    or_more : (a b c d : Bool) → d ≡ (b || c) → (a || d) ≡ ((a || b) || c)
    or_more true b c d e = refl
    or_more false b c d e = e

pub among-from : (n a r : ℕ) → r < a → among r (from n a) ≡ false
among-from zero a r lt = refl
among-from (suc n) a r lt = let no : a ≢ r = λ e. omega (arith, e, lt) in ap (λ b. b || among r (from n (suc a))) (ne_eqb a r no) ∙ among-from n (suc a) r (omega arith)

pub or_false : (a : Bool) → (a || false) ≡ true → a ≡ true
or_false true e = refl
or_false false e = e

pub one_among : (n r : ℕ) → among r (n ∷ []) ≡ true → n ≡ r
one_among n r e = eqb-true n r (or_false (n == r) e)

-- eight words, of which some stand in the table
pub no_items : (r : ℕ) → get_or {A = ℕ} (0 ∷ 0 ∷ 0 ∷ 0 ∷ 0 ∷ 0 ∷ 0 ∷ 0 ∷ []) r 0 ≡ 0
no_items r =
    zero_more (0 ∷ 0 ∷ 0 ∷ 0 ∷ 0 ∷ 0 ∷ 0 ∷ []) (zero_more (0 ∷ 0 ∷ 0 ∷ 0 ∷ 0 ∷ 0 ∷ []) (zero_more (0 ∷ 0 ∷ 0 ∷ 0 ∷ 0 ∷ []) (zero_more (0 ∷ 0 ∷ 0 ∷ 0 ∷ []) (zero_more (0 ∷ 0 ∷ 0 ∷ []) (zero_more (0 ∷ 0 ∷ []) (zero_more (0 ∷ []) (zero_more [] (λ _. refl)))))))) r

pub own_one : (r : ℕ) (xs : List ℕ) → xs ≡ r ∷ [] → among r xs ≡ true
own_one r xs e = ap (among r) e ∙ ap (λ b. b || false) (eq-eqb r r refl)

module _ {A : Type 0} where
  pub each_push : (P : ℕ → A → Type 0) (xs : List A) (x : A) → EachOf P xs → P (length xs) x → EachOf P (xs ++ x ∷ [])
  each_push P xs x each new i y e = ⊎_elim (λ h. each i y h) (λ (h : (i ≡ length xs) × (x ≡ y)). subst (λ (k : ℕ). P k y) (sym h.0) (subst (P (length xs)) h.1 new)) (get_push xs x y i e)

  pub each_none : (P : ℕ → A → Type 0) → EachOf P []
  each_none P i x e = absurd (cc e)

  pub each_pop : (P : ℕ → A → Type 0) (all xs : List A) (x : A) → all ≡ xs ++ x ∷ [] → EachOf P all → EachOf P xs × P (length xs) x
  each_pop P all xs x is each =
      let e = subst (EachOf P) is each in
      ((λ i y h. e i y (stays_at xs (xs ++ x ∷ []) i y (x ∷ [], refl) h)), e (length xs) x (get_here xs x))

  each_cons : (P : A → Type 0) (x : A) (xs : List A) → P x → EachOf (λ _ y. P y) xs → EachOf (λ _ y. P y) (x ∷ xs)
  each_cons P x xs p each zero y e = let same : x ≡ y = cc e in subst P same p
  each_cons P x xs p each (suc i) y e = each i y e

  pub taken_more : (P Q : A → Type 0) (old new all : List A) (x : A) → old ≡ new ++ x ∷ [] → ((y : A) → P y → Q y) → Q x → Taken P old all → Taken Q new all
  taken_more P Q old new all x is weaker q t =
      (x ∷ t.0, sym (append_assoc new (x ∷ []) t.0) ∙ (ap (λ l. l ++ t.0) (sym is) ∙ t.1), each_cons Q x t.0 q (λ i y e. weaker y (t.2 i y e)))

  pub taken_all : (P : A → Type 0) (left all : List A) → left ≡ [] → Taken P left all → EachOf (λ _ x. P x) all
  taken_all P left all none t = subst (EachOf (λ _ x. P x)) (ap (λ l. l ++ t.0) (sym none) ∙ t.1) t.2
