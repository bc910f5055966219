-- The places of each session behind the calls.
use Rattle.cached_sets.proofs.Meaning.{same_test}
use Rattle.cached_sets.specs.Invalid.{replace}
use Rattle.cached_sets.specs.Meaning.{NeverFall}
use Rattle.cached_sets.specs.Noted.{Noted, begins_below, is_silent, kept_from, most_noted, noted_behind, noted_from, places_from, places_of, with_place}
use Rattle.std.proofs.Common.{Bool, List, [], ap, arith, cond, drop, false, length, nat_eq, nat_le, refl, subst, sym, true, ◌+◌, ◌++◌, ◌∙◌, ◌∷◌, ◌≡◌, ◌≤◌, ℕ}
use Rattle.std.proofs.lemmas.Bool.Decides.{nat_tests}
use Rattle.std.proofs.lemmas.Bool.{eqb-true}
use Rattle.std.proofs.lemmas.Cmp.{eq_by_cmp_equiv, nat_eq_equiv}
use Rattle.std.proofs.lemmas.List.{append-nil}
use Rattle.std.proofs.lemmas.Map.{keys-set_value, lookup-set_value}
use Rattle.std.specs.BTreeMap.{is_at}
use Rattle.std.specs.Cmp.{nat_cmp_total}
use Rattle.std.specs.List.Sorted.{IsStrictlySortedBy}
use Rattle.std.specs.List.{AllByRecursion, filter}
use Rattle.std.specs.Option.{IsSome, unwrap_or}
use Rattle.std.specs.Ordering.{nat_cmp}
use Rattle.std.specs.Prelude.{None, Option, Some, nat_lt}
use Rattle.thor_value.proofs.FiniteMap.{IsSorted-insert, IsSorted-remove, get-insert, get-remove}
use Rattle.thor_value.specs.FiniteMap.{IsSorted, get, insert, remove}

-- ---- the places of one session

get_replaced : (N : Noted) (n s : ℕ) (ks js : List ℕ) → get N n ≡ Some js → get (replace N n ks) s ≡ cond (nat_eq n s) (Some ks) (get N s)
get_replaced N n s ks js h =
    let there : IsSome (get N n) = rw h refl in
    lookup-set_value (eq_by_cmp_equiv nat_cmp_total) (is_at (nat_cmp n)) (λ x y t. (eq_by_cmp_equiv nat_cmp_total).congr n x y t) s ks N.pairs there
    ∙ ap (λ (t : Bool). cond t (Some ks) (get N s)) (same_test n s)

get_inserted : (N : Noted) (n s : ℕ) (ks : List ℕ) → get (insert N n ks) s ≡ cond (nat_eq n s) (Some ks) (get N s)
get_inserted N n s ks = get-insert nat_cmp_total N n ks s ∙ ap (λ (t : Bool). cond t (Some ks) (get N s)) (same_test s n ∙ nat_eq_equiv.symm s n)

-- with one more place of the session n
pub noted : (N : Noted) (n k s : ℕ) → places_of (with_place N n k) s ≡ places_of N s ++ cond (nat_eq n s) (k ∷ []) []
noted N n k s = by (get N n) refl (nat_eq n s) refl
  where
    by : (o : Option (List ℕ)) → get N n ≡ o → (t : Bool) → nat_eq n s ≡ t → places_of (noted_behind N n k o) s ≡ places_of N s ++ cond t (k ∷ []) []
    by None f true e = let a : n ≡ s = eqb-true n s e in let b : get N s ≡ None = ap (get N) (sym a) ∙ f in rw (get_inserted N n s (k ∷ []), e, b) refl
    by None f false e = rw (get_inserted N n s (k ∷ []), e) (sym (append-nil (places_of N s)))
    by (Some ks) f true e = let a : n ≡ s = eqb-true n s e in let b : get N s ≡ Some ks = ap (get N) (sym a) ∙ f in rw (get_replaced N n s (ks ++ k ∷ []) ks f, e, b) refl
    by (Some ks) f false e = rw (get_replaced N n s (ks ++ k ∷ []) ks f, e) (sym (append-nil (places_of N s)))

-- ---- what is acknowledged

-- nothing more goes
pub from_stays : (upto : ℕ) (ks : List ℕ) → begins_below upto ks ≡ false → places_from upto ks ≡ ks
from_stays upto [] h = refl
from_stays upto (k ∷ ks) h = ap (λ (t : Bool). cond t (places_from upto ks) (k ∷ ks)) h

-- the first one goes
pub from_goes : (upto : ℕ) (ks : List ℕ) → begins_below upto ks ≡ true → places_from upto (drop 1 ks) ≡ places_from upto ks
from_goes upto [] h = cc
from_goes upto (k ∷ ks) h = sym (ap (λ (t : Bool). cond t (places_from upto ks) (k ∷ ks)) h)

pub one_less : (upto : ℕ) (ks : List ℕ) → begins_below upto ks ≡ true → length ks ≡ length (drop 1 ks) + 1
one_less upto [] h = cc
one_less upto (k ∷ ks) h = omega arith

kept : (n upto s : ℕ) (N : Noted) → places_of (noted_from n upto N) s ≡ cond (nat_eq n s) (places_from upto (places_of N s)) (places_of N s)
kept n upto s N = by (get N n) refl (nat_eq n s) refl
  where
    by : (o : Option (List ℕ)) → get N n ≡ o → (t : Bool) → nat_eq n s ≡ t → places_of (kept_from N n upto o) s ≡ cond t (places_from upto (places_of N s)) (places_of N s)
    by None f true e = let a : n ≡ s = eqb-true n s e in let b : get N s ≡ None = ap (get N) (sym a) ∙ f in rw b refl
    by None f false e = refl
    by (Some ks) f true e = let a : n ≡ s = eqb-true n s e in let b : get N s ≡ Some ks = ap (get N) (sym a) ∙ f in rw (get_replaced N n s (places_from upto ks) ks f, e, b) refl
    by (Some ks) f false e = rw (get_replaced N n s (places_from upto ks) ks f, e) refl

none_below : (upto : ℕ) (ks : List ℕ) → AllByRecursion (λ j. upto ≤ j) ks → filter (nat_le upto) ks ≡ ks
none_below upto [] h = refl
none_below upto (k ∷ ks) h =
    let l : upto ≤ k = h.0 in
    let here : nat_le upto k ≡ true = grind (arith, nat_tests) in
    rw here (ap (λ (js : List ℕ). k ∷ js) (none_below upto ks h.1))

all_above : (upto k : ℕ) (ks : List ℕ) → upto ≤ k → AllByRecursion (λ j. k ≤ j) ks → AllByRecursion (λ j. upto ≤ j) ks
all_above upto k [] l h = tt
all_above upto k (j ∷ js) l h = let e : k ≤ j = h.0 in (omega (arith, l, e), all_above upto k js l h.1)

rising_from : (upto : ℕ) (ks : List ℕ) → NeverFall ks → places_from upto ks ≡ filter (nat_le upto) ks
rising_from upto [] h = refl
rising_from upto (k ∷ ks) h = by (nat_lt k upto) refl (rising_from upto ks h.1)
  where
    by : (low : Bool) → nat_lt k upto ≡ low → places_from upto ks ≡ filter (nat_le upto) ks → cond low (places_from upto ks) (k ∷ ks) ≡ filter (nat_le upto) (k ∷ ks)
    by true e more = let f : nat_le upto k ≡ false = grind (arith, nat_tests) in rw f more
    by false e more = let l : upto ≤ k = grind (arith, nat_tests) in sym (none_below upto (k ∷ ks) (l, all_above upto k ks l h.0))

pub acknowledged : (N : Noted) (n upto s : ℕ) → NeverFall (places_of N n) → places_of (noted_from n upto N) s ≡ cond (nat_eq n s) (filter (nat_le upto) (places_of N s)) (places_of N s)
acknowledged N n upto s h = kept n upto s N ∙ by (nat_eq n s) refl
  where
    by : (t : Bool) → nat_eq n s ≡ t → cond t (places_from upto (places_of N s)) (places_of N s) ≡ cond t (filter (nat_le upto) (places_of N s)) (places_of N s)
    by true e = rising_from upto (places_of N s) (subst (λ (k : ℕ). NeverFall (places_of N k)) (eqb-true n s e) h)
    by false e = refl

pub others_acknowledged : (N : Noted) (n upto s : ℕ) → nat_eq n s ≡ false → places_of (noted_from n upto N) s ≡ places_of N s
others_acknowledged N n upto s e = kept n upto s N ∙ ap (λ (t : Bool). cond t (places_from upto (places_of N s)) (places_of N s)) e

-- of none none goes, and of some none comes
pub none_acknowledged : (N : Noted) (n upto s : ℕ) → places_of N s ≡ [] → places_of (noted_from n upto N) s ≡ []
none_acknowledged N n upto s h = kept n upto s N ∙ ap (λ (ks : List ℕ). cond (nat_eq n s) (places_from upto ks) ks) h ∙ by (nat_eq n s)
  where
    by : (t : Bool) → cond {A = List ℕ} t [] [] ≡ []
    by true = refl
    by false = refl

fewer_from : (upto : ℕ) (ks : List ℕ) → length (places_from upto ks) ≤ length ks
fewer_from upto [] = omega arith
fewer_from upto (k ∷ ks) = by (nat_lt k upto) (fewer_from upto ks)
  where
    by : (low : Bool) → length (places_from upto ks) ≤ length ks → length (cond low (places_from upto ks) (k ∷ ks)) ≤ length (k ∷ ks)
    by true more = omega (arith, more)
    by false more = omega arith

pub still_heard : (N : Noted) (n upto s : ℕ) → is_silent N s ≡ false → is_silent (noted_from n upto N) s ≡ false
still_heard N n upto s h = ap (λ (ks : List ℕ). nat_lt most_noted (length ks)) (kept n upto s N) ∙ by (nat_eq n s)
  where
    fewer : length (places_from upto (places_of N s)) ≤ length (places_of N s)
    fewer = fewer_from upto (places_of N s)

    by : (t : Bool) → nat_lt most_noted (length (cond t (places_from upto (places_of N s)) (places_of N s))) ≡ false
    by true = under most_noted (length (places_from upto (places_of N s))) (length (places_of N s)) fewer h
      where
        under : (m i j : ℕ) → i ≤ j → nat_lt m j ≡ false → nat_lt m i ≡ false
        under m i j l e = grind (arith, nat_tests)
    by false = h

-- ---- a session ends

pub dropped : (N : Noted) (n s : ℕ) → IsSorted N → places_of (remove N n) s ≡ cond (nat_eq n s) [] (places_of N s)
dropped N n s h = ap (λ (o : Option (List ℕ)). unwrap_or o []) (get-remove nat_cmp_total N n s h ∙ ap (λ (t : Bool). cond t None (get N s)) (same_test n s)) ∙ by (nat_eq n s)
  where
    by : (t : Bool) → unwrap_or (cond t None (get N s)) [] ≡ cond t [] (places_of N s)
    by true = refl
    by false = refl

-- ---- the sessions stay in order

pub none_noted : IsStrictlySortedBy nat_cmp []
unfolding IsStrictlySortedBy
none_noted = tt

replaced_order : (N : Noted) (n : ℕ) (ks : List ℕ) → IsSorted N → IsSorted (replace N n ks)
replaced_order N n ks h = subst (IsStrictlySortedBy nat_cmp) (sym (keys-set_value (is_at (nat_cmp n)) N.pairs ks)) h

pub noted_order : (N : Noted) (n k : ℕ) → IsSorted N → IsSorted (with_place N n k)
noted_order N n k h = by (get N n)
  where
    by : (o : Option (List ℕ)) → IsSorted (noted_behind N n k o)
    by None = IsSorted-insert nat_cmp_total N n (k ∷ []) h
    by (Some ks) = replaced_order N n (ks ++ k ∷ []) h

pub kept_order : (N : Noted) (n upto : ℕ) → IsSorted N → IsSorted (noted_from n upto N)
kept_order N n upto h = by (get N n)
  where
    by : (o : Option (List ℕ)) → IsSorted (kept_from N n upto o)
    by None = h
    by (Some ks) = replaced_order N n (places_from upto ks) h

pub dropped_order : (N : Noted) (n : ℕ) → IsSorted N → IsSorted (remove N n)
dropped_order N n h = IsSorted-remove nat_cmp N n h
