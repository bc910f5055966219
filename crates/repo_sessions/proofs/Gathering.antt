-- The names that are gathered for each session.
use Rattle.cached_sets.proofs.Meaning.{same_test}
use Rattle.cached_sets.specs.Sets.{holders, told_of, touches}
use Rattle.cached_sets.specs.declared.marked.Marked.{Marked}
use Rattle.link_table.specs.Pairs.{is_linked, lefts}
use Rattle.repo_sessions.specs.Noting.{IsGathered, IsNoted, Named, if_any, named, names_of, noted, noted_all, noted_behind, noted_for}
use Rattle.std.proofs.Common.{Bool, List, [], add-one, ap, append_assoc, cond, drop, drop-cons, false, get_or, length, map, nat_eq, refl, subst, sym, true, ◌+◌, ◌++◌, ◌<◌, ◌∙◌, ◌∷◌, ◌≡◌, ℕ}
use Rattle.std.proofs.lemmas.Bool.{eqb-true}
use Rattle.std.proofs.lemmas.Cmp.{eq_by_cmp_equiv, nat_eq_equiv}
use Rattle.std.proofs.lemmas.List.Elements.{filter-append}
use Rattle.std.proofs.lemmas.List.{append-nil}
use Rattle.std.proofs.lemmas.Map.{keys-set_value, lookup-set_value}
use Rattle.std.specs.BTreeMap.{is_at}
use Rattle.std.specs.Cmp.{nat_cmp_total}
use Rattle.std.specs.List.Sorted.{IsStrictlySortedBy}
use Rattle.std.specs.List.{AllByRecursion, IsDistinct, filter, list_any}
use Rattle.std.specs.Map.{set_value}
use Rattle.std.specs.Option.{IsSome, unwrap_or}
use Rattle.std.specs.Ordering.{nat_cmp}
use Rattle.std.specs.Prelude.{None, Option, Some, not, ◌&&◌, ◌||◌}
use Rattle.thor_value.proofs.FiniteMap.{IsSorted-insert, get-insert}
use Rattle.thor_value.specs.FiniteMap.{IsSorted, empty, get, insert}
use Rattle.thor_value.specs.declared.names.Oref.{Oref}

-- ---- one more name of one session

get_put : (N : Named) (n s : ℕ) (xs : List Oref) → get (insert N n xs) s ≡ cond (nat_eq n s) (Some xs) (get N s)
get_put N n s xs = get-insert nat_cmp_total N n xs s ∙ ap (λ (t : Bool). cond t (Some xs) (get N s)) (same_test s n ∙ nat_eq_equiv.symm s n)

get_set : (N : Named) (n s : ℕ) (xs os : List Oref) → get N n ≡ Some os → get (named (set_value (is_at (nat_cmp n)) N.pairs xs)) s ≡ cond (nat_eq n s) (Some xs) (get N s)
get_set N n s xs os h =
    let there : IsSome (get N n) = rw h refl in
    lookup-set_value (eq_by_cmp_equiv nat_cmp_total) (is_at (nat_cmp n)) (λ x y t. (eq_by_cmp_equiv nat_cmp_total).congr n x y t) s xs N.pairs there
    ∙ ap (λ (t : Bool). cond t (Some xs) (get N s)) (same_test n s)

-- what stands at s then
get_noted : (N : Named) (n s : ℕ) (x : Oref) → get (noted N n x) s ≡ cond (nat_eq n s) (Some (names_of N n ++ x ∷ [])) (get N s)
get_noted N n s x = by (get N n) refl
  where
    by : (o : Option (List Oref)) → get N n ≡ o → get (noted_behind N n x o) s ≡ cond (nat_eq n s) (Some (unwrap_or (get N n) [] ++ x ∷ [])) (get N s)
    by None e = get_put N n s (x ∷ []) ∙ ap (λ (p : Option (List Oref)). cond (nat_eq n s) (Some (unwrap_or p [] ++ x ∷ [])) (get N s)) (sym e)
    by (Some xs) e = get_set N n s (xs ++ x ∷ []) xs e ∙ ap (λ (p : Option (List Oref)). cond (nat_eq n s) (Some (unwrap_or p [] ++ x ∷ [])) (get N s)) (sym e)

names_noted : (N : Named) (n s : ℕ) (x : Oref) → names_of (noted N n x) s ≡ names_of N s ++ cond (nat_eq n s) (x ∷ []) []
names_noted N n s x = ap (λ (o : Option (List Oref)). unwrap_or o []) (get_noted N n s x) ∙ by (nat_eq n s) refl
  where
    by : (t : Bool) → nat_eq n s ≡ t → unwrap_or (cond t (Some (names_of N n ++ x ∷ [])) (get N s)) [] ≡ names_of N s ++ cond t (x ∷ []) []
    by true e = ap (λ (k : ℕ). names_of N k ++ x ∷ []) (eqb-true n s e)
    by false e = sym (append-nil (names_of N s))

abbrev Full : Named → Type 0
Full N = (s : ℕ) → get N s ≡ if_any (names_of N s)

any_more : (xs : List Oref) (x : Oref) → Some (xs ++ x ∷ []) ≡ if_any (xs ++ x ∷ [])
any_more [] x = refl
any_more (y ∷ ys) x = refl

full_noted : (N : Named) (n : ℕ) (x : Oref) → Full N → Full (noted N n x)
full_noted N n x h s = get_noted N n s x ∙ by (nat_eq n s) refl
  where
    at : get (noted N n x) s ≡ cond (nat_eq n s) (Some (names_of N n ++ x ∷ [])) (get N s)
    at = get_noted N n s x

    by : (t : Bool) → nat_eq n s ≡ t → cond (nat_eq n s) (Some (names_of N n ++ x ∷ [])) (get N s) ≡ if_any (names_of (noted N n x) s)
    by true e =
        let f : get (noted N n x) s ≡ Some (names_of N n ++ x ∷ []) = at ∙ ap (λ (t : Bool). cond t (Some (names_of N n ++ x ∷ [])) (get N s)) e in
        sym at ∙ f ∙ any_more (names_of N n) x ∙ sym (ap (λ (o : Option (List Oref)). if_any (unwrap_or o [])) f)
    by false e =
        let f : get (noted N n x) s ≡ get N s = at ∙ ap (λ (t : Bool). cond t (Some (names_of N n ++ x ∷ [])) (get N s)) e in
        sym at ∙ f ∙ h s ∙ sym (ap (λ (o : Option (List Oref)). if_any (unwrap_or o [])) f)

order_noted : (N : Named) (n : ℕ) (x : Oref) → IsSorted N → IsSorted (noted N n x)
order_noted N n x h = by (get N n)
  where
    by : (o : Option (List Oref)) → IsSorted (noted_behind N n x o)
    by None = IsSorted-insert nat_cmp_total N n (x ∷ []) h
    by (Some xs) = subst (IsStrictlySortedBy nat_cmp) (sym (keys-set_value (is_at (nat_cmp n)) N.pairs (xs ++ x ∷ []))) h

-- ---- one more name of several sessions

full_all : (N : Named) (ss : List ℕ) (x : Oref) → Full N → Full (noted_for N ss x)
full_all N [] x h = h
full_all N (s ∷ ss) x h = full_all (noted N s x) ss x (full_noted N s x h)

order_all : (N : Named) (ss : List ℕ) (x : Oref) → IsSorted N → IsSorted (noted_for N ss x)
order_all N [] x h = h
order_all N (s ∷ ss) x h = order_all (noted N s x) ss x (order_noted N s x h)

-- whether s is among them
abbrev is_in : ℕ → List ℕ → Bool
is_in s ss = list_any (λ n. nat_eq n s) ss

missed : (n s : ℕ) (ss : List ℕ) → nat_eq n s ≡ true → AllByRecursion (λ y. nat_eq n y ≡ false) ss → is_in s ss ≡ false
missed n s [] e h = refl
missed n s (y ∷ ys) e h =
    let f : nat_eq y s ≡ false = ap (nat_eq y) (sym (eqb-true n s e)) ∙ nat_eq_equiv.symm y n ∙ h.0 in
    ap (λ (t : Bool). t || is_in s ys) f ∙ missed n s ys e h.1

names_all : (N : Named) (ss : List ℕ) (s : ℕ) (x : Oref) → IsDistinct nat_eq ss → names_of (noted_for N ss x) s ≡ names_of N s ++ cond (is_in s ss) (x ∷ []) []
unfolding IsDistinct
names_all N [] s x d = sym (append-nil (names_of N s))
names_all N (n ∷ ns) s x d =
    names_all (noted N n x) ns s x d.1
    ∙ ap (λ (xs : List Oref). xs ++ cond (is_in s ns) (x ∷ []) []) (names_noted N n s x)
    ∙ append_assoc (names_of N s) (cond (nat_eq n s) (x ∷ []) []) (cond (is_in s ns) (x ∷ []) [])
    ∙ ap (λ (xs : List Oref). names_of N s ++ xs) (by (nat_eq n s) refl)
  where
    by : (t : Bool) → nat_eq n s ≡ t → cond t (x ∷ []) [] ++ cond (is_in s ns) (x ∷ []) [] ≡ cond (t || is_in s ns) (x ∷ []) []
    by true e = ap (λ (t : Bool). x ∷ cond t (x ∷ []) []) (missed n s ns e d.0)
    by false e = refl

-- ---- those that have a page

in_lefts : (C : List (ℕ × ℕ)) (s page : ℕ) → is_in s (lefts C page) ≡ is_linked C s page
in_lefts [] s page = refl
in_lefts (p ∷ ps) s page = by (nat_eq p.1 page) (nat_eq p.0 s) refl (in_lefts ps s page)
  where
    by : (a b : Bool) → nat_eq p.0 s ≡ b → is_in s (lefts ps page) ≡ is_linked ps s page
        → is_in s (map (λ q. q.0) (cond a (p ∷ filter (λ q. nat_eq q.1 page) ps) (filter (λ q. nat_eq q.1 page) ps))) ≡ ((b && a) || is_linked ps s page)
    by true true e more = rw e refl
    by true false e more = rw e more
    by false true e more = more
    by false false e more = more

in_others : (w s : ℕ) (ss : List ℕ) → is_in s (filter (λ n. not (nat_eq n w)) ss) ≡ (not (nat_eq s w) && is_in s ss)
in_others w s [] = by (nat_eq s w)
  where
    by : (t : Bool) → false ≡ (not t && false)
    by true = refl
    by false = refl
in_others w s (n ∷ ns) = by (nat_eq n w) refl (nat_eq n s) refl (nat_eq s w) refl (in_others w s ns)
  where
    by : (a : Bool) → nat_eq n w ≡ a → (b : Bool) → nat_eq n s ≡ b → (c : Bool) → nat_eq s w ≡ c
        → is_in s (filter (λ n. not (nat_eq n w)) ns) ≡ (not c && is_in s ns)
        → is_in s (cond (not a) (n ∷ filter (λ n. not (nat_eq n w)) ns) (filter (λ n. not (nat_eq n w)) ns)) ≡ (not c && (b || is_in s ns))
    by true e true f true g more = more
    by true e true f false g more = let j : nat_eq n w ≡ false = ap (λ (k : ℕ). nat_eq k w) (eqb-true n s f) ∙ g in cc
    by true e false f c g more = more
    by false e true f true g more = let j : nat_eq n w ≡ true = ap (λ (k : ℕ). nat_eq k w) (eqb-true n s f) ∙ g in cc
    by false e true f false g more = ap (λ (t : Bool). t || is_in s (filter (λ n. not (nat_eq n w)) ns)) f
    by false e false f c g more = ap (λ (t : Bool). t || is_in s (filter (λ n. not (nat_eq n w)) ns)) f ∙ more

-- some of distinct numbers are distinct
others_apart : (n w : ℕ) (ss : List ℕ) → AllByRecursion (λ y. nat_eq n y ≡ false) ss → AllByRecursion (λ y. nat_eq n y ≡ false) (filter (λ k. not (nat_eq k w)) ss)
others_apart n w [] h = tt
others_apart n w (y ∷ ys) h = by (nat_eq y w) (others_apart n w ys h.1)
  where
    by : (t : Bool) → AllByRecursion (λ z. nat_eq n z ≡ false) (filter (λ k. not (nat_eq k w)) ys) → AllByRecursion (λ z. nat_eq n z ≡ false) (cond (not t) (y ∷ filter (λ k. not (nat_eq k w)) ys) (filter (λ k. not (nat_eq k w)) ys))
    by true r = r
    by false r = (h.0, r)

others_distinct : (w : ℕ) (ss : List ℕ) → IsDistinct nat_eq ss → IsDistinct nat_eq (filter (λ k. not (nat_eq k w)) ss)
unfolding IsDistinct
others_distinct w [] h = tt
others_distinct w (y ∷ ys) h = by (nat_eq y w) (others_distinct w ys h.1)
  where
    by : (t : Bool) → IsDistinct nat_eq (filter (λ k. not (nat_eq k w)) ys) → IsDistinct nat_eq (cond (not t) (y ∷ filter (λ k. not (nat_eq k w)) ys) (filter (λ k. not (nat_eq k w)) ys))
    by true r = r
    by false r = (others_apart y w ys h.0, r)

-- each session but the writer that has the page
all_noted : (C : List (ℕ × ℕ)) (w : ℕ) (x : Oref) (N M : Named) → IsDistinct nat_eq (lefts C x.page) → M ≡ noted_for N (filter (λ s. not (nat_eq s w)) (lefts C x.page)) x → IsNoted C w x N M
all_noted C w x N M d e = subst (IsNoted C w x N) (sym e) (record {
  names = λ s.
      names_all N ss s x (others_distinct w (lefts C x.page) d)
      ∙ ap (λ (t : Bool). names_of N s ++ cond t (x ∷ []) []) (in_others w s (lefts C x.page) ∙ ap (λ (t : Bool). not (nat_eq s w) && t) (in_lefts C s x.page))
      ∙ ap (λ (xs : List Oref). names_of N s ++ xs) (by (nat_eq s w) (is_linked C s x.page));
  full = full_all N ss x;
  order = order_all N ss x;
})
  where
    ss : List ℕ
    ss = filter (λ s. not (nat_eq s w)) (lefts C x.page)

    by : (own there : Bool) → cond (not own && there) (x ∷ []) [] ≡ cond own [] (cond there (x ∷ []) [])
    by true there = refl
    by false there = refl

-- ---- several names

no_key : IsStrictlySortedBy nat_cmp []
unfolding IsStrictlySortedBy
no_key = tt

abbrev no_names : List Oref
no_names = []

none_gathered : (C : List (ℕ × ℕ)) (w : ℕ) → IsGathered C w [] empty
none_gathered C w = record { names_are = λ s. by (nat_eq s w); full = λ s. refl; order = no_key }
  where
    by : (t : Bool) → no_names ≡ cond t no_names no_names
    by true = refl
    by false = refl

more_gathered : (C : List (ℕ × ℕ)) (w : ℕ) (names : List Oref) (x : Oref) (N M : Named) → IsGathered C w names N → IsNoted C w x N M → IsGathered C w (names ++ x ∷ []) M
more_gathered C w names x N M h g = record {
  names_are = λ s.
      g.names s
      ∙ ap (λ (xs : List Oref). xs ++ cond (nat_eq s w) [] (cond (is_linked C s x.page) (x ∷ []) [])) (h.names_are s)
      ∙ by s (nat_eq s w);
  full = g.full h.full;
  order = g.order h.order;
}
  where
    by : (s : ℕ) (t : Bool) → cond t [] (filter (λ y. is_linked C s y.page) names) ++ cond t [] (cond (is_linked C s x.page) (x ∷ []) []) ≡ cond t [] (filter (λ y. is_linked C s y.page) (names ++ x ∷ []))
    by s true = refl
    by s false = sym (filter-append (λ (y : Oref). is_linked C s y.page) names (x ∷ []))

-- ---- the marks of a commit

noted_append : (N : Named) (ts us : List (ℕ × Oref)) → noted_all N (ts ++ us) ≡ noted_all (noted_all N ts) us
noted_append N [] us = refl
noted_append N (t ∷ ts) us = noted_append (noted N t.0 t.1) ts us

noted_each : (N : Named) (ss : List ℕ) (x : Oref) → noted_all N (map (λ s. (s, x)) ss) ≡ noted_for N ss x
noted_each N [] x = refl
noted_each N (s ∷ ss) x = noted_each (noted N s x) ss x

-- those of some names behind others
gathered_from : (C : List (ℕ × ℕ)) (w : ℕ) → ((page : ℕ) → IsDistinct nat_eq (lefts C page)) → (names done : List Oref) (N : Named) → IsGathered C w done N → IsGathered C w (done ++ names) (noted_all N (touches C w names))
gathered_from C w d [] done N h = subst (λ (ns : List Oref). IsGathered C w ns N) (sym (append-nil done)) h
gathered_from C w d (x ∷ xs) done N h =
    let M : Named = noted_all N (map (λ s. (s, x)) (holders C w x)) in
    let here : IsNoted C w x N M = all_noted C w x N M (d x.page) (noted_each N (holders C w x) x) in
    let rest : IsGathered C w ((done ++ x ∷ []) ++ xs) (noted_all M (touches C w xs)) = gathered_from C w d xs (done ++ x ∷ []) M (more_gathered C w done x N M h here) in
    subst (λ (K : Named). IsGathered C w (done ++ x ∷ xs) K) (sym (noted_append N (map (λ s. (s, x)) (holders C w x)) (touches C w xs))) (subst (λ (ns : List Oref). IsGathered C w ns (noted_all M (touches C w xs))) (append_assoc done (x ∷ []) xs) rest)

-- where each session is named by its marks
pub all_gathered : (C : List (ℕ × ℕ)) (w : ℕ) (names : List Oref) → ((page : ℕ) → IsDistinct nat_eq (lefts C page)) → IsGathered C w names (noted_all empty (touches C w names))
all_gathered C w names d = gathered_from C w d names [] empty (none_gathered C w)

-- the marks from one on: that one, and those behind it
pub marks_from : (N : Named) (ms : List Marked) (i : ℕ) (d : Marked) → i < length ms → noted_all N (map told_of (drop i ms)) ≡ noted_all (noted N (get_or ms i d).session (get_or ms i d).oref) (map told_of (drop (i + 1) ms))
marks_from N ms i d l = rw (drop-cons ms i d l, add-one) refl
