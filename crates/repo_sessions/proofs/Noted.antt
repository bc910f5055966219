-- The places of each session behind what is told, and which sessions are given up then.
use Rattle.cached_sets.proofs.Places.{noted, noted_order}
use Rattle.cached_sets.specs.Noted.{Noted, is_silent, most_noted, places_of, with_place}
use Rattle.repo_sessions.proofs.Sending.{none_at}
use Rattle.repo_sessions.specs.Noting.{noted_at, silent_at}
use Rattle.cached_sets.proofs.Meaning.{same_test}
use Rattle.std.proofs.Common.{Bool, List, [], ap, append_assoc, arith, cond, false, length, nat_eq, refl, sym, true, ◌+◌, ◌++◌, ◌∙◌, ◌∷◌, ◌≡◌, ◌≤◌, ℕ}
use Rattle.std.proofs.lemmas.Bool.Decides.{nat_tests}
use Rattle.std.proofs.lemmas.Bool.{eqb-true}
use Rattle.std.proofs.lemmas.Cmp.{nat_eq_equiv}
use Rattle.std.proofs.lemmas.List.{append-nil, length-append}
use Rattle.std.specs.BTreeMap.{is_at}
use Rattle.std.specs.List.Sorted.{IsStrictlySortedBy}
use Rattle.std.specs.List.{AllByRecursion, list_any}
use Rattle.std.specs.Map.{keys_of, lookup}
use Rattle.std.specs.Ordering.{nat_cmp}
use Rattle.std.specs.Prelude.{None, Option, Some, nat_lt, ◌||◌}
use Rattle.std.specs.declared.cmp.Ordering.TheVariants.{Less}
use Rattle.thor_value.specs.FiniteMap.{IsSorted}

-- ---- the sessions stay in order

pub places_order : (N : Noted) (ss : List ℕ) (k : ℕ) → IsSorted N → IsSorted (noted_at N ss k)
places_order N [] k h = h
places_order N (s ∷ ss) k h = places_order (with_place N s k) ss k (noted_order N s k h)

-- ---- one place for each of some sessions

-- the place of a session for which something is there
abbrev pub place_for : {X : Type 0} → ℕ → Option X → List ℕ
place_for k None = []
place_for k (Some v) = k ∷ []

-- the first, and that of the others
first_for : {X : Type 0} (k s : ℕ) (e : ℕ × X) (es : List (ℕ × X)) → AllByRecursion (λ y. nat_cmp e.0 y ≡ Less) (keys_of es)
    → cond (nat_eq e.0 s) (k ∷ []) [] ++ place_for k (lookup (is_at (nat_cmp s)) es) ≡ place_for k (lookup (is_at (nat_cmp s)) (e ∷ es))
first_for k s e es h = by (nat_eq e.0 s) refl ∙ ap (λ (t : Bool). place_for k (cond t (Some e.1) (lookup (is_at (nat_cmp s)) es))) (sym (same_test s e.0 ∙ nat_eq_equiv.symm s e.0))
  where
    by : (t : Bool) → nat_eq e.0 s ≡ t → cond t (k ∷ []) [] ++ place_for k (lookup (is_at (nat_cmp s)) es) ≡ place_for k (cond (nat_eq e.0 s) (Some e.1) (lookup (is_at (nat_cmp s)) es))
    by true g =
        let a : e.0 ≡ s = eqb-true e.0 s g in
        let n : lookup (is_at (nat_cmp s)) es ≡ None = ap (λ (j : ℕ). lookup (is_at (nat_cmp j)) es) (sym a) ∙ none_at e.0 es h in
        ap (λ o. k ∷ place_for k o) n ∙ sym (ap (λ (t : Bool). place_for k (cond t (Some e.1) (lookup (is_at (nat_cmp s)) es))) g)
    by false g = sym (ap (λ (t : Bool). place_for k (cond t (Some e.1) (lookup (is_at (nat_cmp s)) es))) g)

pub places_noted : {X : Type 0} (N : Noted) (es : List (ℕ × X)) (k s : ℕ) → IsStrictlySortedBy nat_cmp (keys_of es) → places_of (noted_at N (keys_of es) k) s ≡ places_of N s ++ place_for k (lookup (is_at (nat_cmp s)) es)
unfolding IsStrictlySortedBy
places_noted N [] k s h = sym (append-nil (places_of N s))
places_noted N (e ∷ es) k s h =
    places_noted (with_place N e.0 k) es k s h.1
    ∙ ap (λ (ks : List ℕ). ks ++ place_for k (lookup (is_at (nat_cmp s)) es)) (noted N e.0 k s)
    ∙ append_assoc (places_of N s) (cond (nat_eq e.0 s) (k ∷ []) []) (place_for k (lookup (is_at (nat_cmp s)) es))
    ∙ ap (λ (ks : List ℕ). places_of N s ++ ks) (first_for k s e es h.0)

-- ---- which of them have more than they may

-- no place goes
no_fewer : (N : Noted) (ss : List ℕ) (k s : ℕ) → length (places_of N s) ≤ length (places_of (noted_at N ss k) s)
no_fewer N [] k s = omega arith
no_fewer N (n ∷ ns) k s =
    let rest : length (places_of (with_place N n k) s) ≤ length (places_of (noted_at (with_place N n k) ns k) s) = no_fewer (with_place N n k) ns k s in
    let here : length (places_of (with_place N n k) s) ≡ length (places_of N s) + length (cond (nat_eq n s) (k ∷ []) []) = ap length (noted N n k s) ∙ length-append (places_of N s) (cond (nat_eq n s) (k ∷ []) []) in
    omega (arith, rest, here)

stays_silent : (N : Noted) (ss : List ℕ) (k s : ℕ) → is_silent N s ≡ true → is_silent (noted_at N ss k) s ≡ true
stays_silent N ss k s h = above most_noted (length (places_of N s)) (length (places_of (noted_at N ss k) s)) (no_fewer N ss k s) h
  where
    above : (m i j : ℕ) → i ≤ j → nat_lt m i ≡ true → nat_lt m j ≡ true
    above m i j l e = grind (arith, nat_tests)

-- another session has no place more
other : (N : Noted) (n k s : ℕ) → nat_eq n s ≡ false → is_silent (with_place N n k) s ≡ is_silent N s
other N n k s e = ap (λ (ks : List ℕ). nat_lt most_noted (length ks)) (noted N n k s ∙ ap (λ (t : Bool). places_of N s ++ cond t (k ∷ []) []) e ∙ append-nil (places_of N s))

pub silent_are : (N : Noted) (ss : List ℕ) (k s : ℕ) → is_silent N s ≡ false → list_any (nat_eq s) (silent_at N ss k) ≡ is_silent (noted_at N ss k) s
silent_are N [] k s h = sym h
silent_are N (n ∷ ns) k s h = by (nat_eq n s) refl (is_silent (with_place N n k) n) refl (λ e. silent_are (with_place N n k) ns k s e)
  where
    by : (own : Bool) → nat_eq n s ≡ own → (t : Bool) → is_silent (with_place N n k) n ≡ t
        → (is_silent (with_place N n k) s ≡ false → list_any (nat_eq s) (silent_at (with_place N n k) ns k) ≡ is_silent (noted_at (with_place N n k) ns k) s)
        → list_any (nat_eq s) (cond t (n ∷ []) [] ++ silent_at (with_place N n k) ns k) ≡ is_silent (noted_at (with_place N n k) ns k) s
    by true e true f rest =
        let there : is_silent (with_place N n k) s ≡ true = ap (is_silent (with_place N n k)) (sym (eqb-true n s e)) ∙ f in
        ap (λ (t : Bool). t || list_any (nat_eq s) (silent_at (with_place N n k) ns k)) (nat_eq_equiv.symm s n ∙ e) ∙ sym (stays_silent (with_place N n k) ns k s there)
    by true e false f rest = rest (ap (is_silent (with_place N n k)) (sym (eqb-true n s e)) ∙ f)
    by false e true f rest =
        ap (λ (t : Bool). t || list_any (nat_eq s) (silent_at (with_place N n k) ns k)) (nat_eq_equiv.symm s n ∙ e) ∙ rest (other N n k s e ∙ h)
    by false e false f rest = rest (other N n k s e ∙ h)

-- ---- one session more

-- none comes to the others
pub none_more : (xs : List ℕ) → xs ++ [] ≡ xs
none_more xs = append-nil xs
