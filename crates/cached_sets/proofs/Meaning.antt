-- What the calls do to each session and each object.
use Rattle.cached_sets.specs.Invalid.{Invalid, Invalids, changed, mark, replace, set_of}
use Rattle.cached_sets.specs.Meaning.{has_page, place_in}
use Rattle.cached_sets.specs.Sets.{Sets, cache, holders, marked, opened, touch, touches}
use Rattle.link_table.specs.Pairs.{is_linked, is_pair, lefts}
use Rattle.std.proofs.Common.{Bool, List, [], ap, arith, cond, false, map, nat_eq, refl, sym, true, ◌++◌, ◌∙◌, ◌∷◌, ◌≡◌, ℕ}
use Rattle.std.proofs.lemmas.Bool.Decides.{nat_tests}
use Rattle.std.proofs.lemmas.Bool.{eq-eqb, eqb-true, and_parts}
use Rattle.std.proofs.lemmas.Cmp.{eq_by_cmp_equiv}
use Rattle.std.proofs.lemmas.Map.{lookup-set_value}
use Rattle.std.specs.BTreeMap.{is_at}
use Rattle.std.specs.Cmp.{nat_cmp_total}
use Rattle.std.specs.List.{filter, list_any}
use Rattle.std.specs.Option.{IsSome, is_some}
use Rattle.std.specs.Ordering.{eq_by_cmp, is_eq, nat_cmp}
use Rattle.std.specs.Prelude.{None, Option, Some, not, ◌&&◌, ◌||◌}
use Rattle.std.specs.declared.cmp.Ordering.TheVariants.{Equal, Greater, Less}
use Rattle.std.specs.declared.cmp.Ordering.{Ordering}
use Rattle.thor_value.proofs.FiniteMap.{get-insert}
use Rattle.thor_value.proofs.NameOrders.{oref_exact, oref_total}
use Rattle.thor_value.specs.FiniteMap.{empty, get, has, insert}
use Rattle.thor_value.specs.Names.{oref_cmp, same_oref}
use Rattle.thor_value.specs.declared.names.Oref.{Oref}
use Rattle.validation_queue.specs.Names.{is_among}

-- ---- tests

equal : (r : Ordering) → is_eq r ≡ true → r ≡ Equal
equal Equal h = refl
equal Less h = cc
equal Greater h = cc

pub same_test : (a b : ℕ) → eq_by_cmp nat_cmp a b ≡ nat_eq a b
same_test a b = grind (arith, nat_tests)

or_false : (t : Bool) → (t || false) ≡ t
or_false true = refl
or_false false = refl

or_assoc : (a b c : Bool) → ((a || b) || c) ≡ (a || (b || c))
or_assoc true b c = refl
or_assoc false b c = refl

any_append : {X : Type 0} (test : X → Bool) (xs ys : List X) → list_any test (xs ++ ys) ≡ (list_any test xs || list_any test ys)
any_append test [] ys = refl
any_append test (x ∷ xs) ys = ap (λ (t : Bool). test x || t) (any_append test xs ys) ∙ sym (or_assoc (test x) (list_any test xs) (list_any test ys))

-- ---- pages

pub cached : (S : Sets) (n page s p : ℕ) → has_page (cache S n page) s p ≡ (has_page S s p || is_pair s p (n, page))
cached S n page s p = by (is_linked S.cached n page) refl (is_pair s p (n, page)) refl
  where
    by : (a : Bool) → is_linked S.cached n page ≡ a → (b : Bool) → is_pair s p (n, page) ≡ b → is_linked (cond a S.cached (S.cached ++ (n, page) ∷ [])) s p ≡ (is_linked S.cached s p || b)
    by true e true f =
        let parts = and_parts (nat_eq n s) (nat_eq page p) f in
        let i : n ≡ s = eqb-true n s parts.0 in
        let j : page ≡ p = eqb-true page p parts.1 in
        let h : is_linked S.cached s p ≡ true = rw (← i, ← j) e in
        rw h refl
    by true e false f = sym (or_false (is_linked S.cached s p))
    by false e t f = any_append (is_pair s p) S.cached ((n, page) ∷ []) ∙ ap (λ (u : Bool). is_linked S.cached s p || u) (rw f (or_false t))

pub is_open : (N : Invalids) (n : ℕ) → has (opened N n) n ≡ true
is_open N n = by (has N n) refl
  where
    by : (t : Bool) → has N n ≡ t → has (cond t N (insert N n empty)) n ≡ true
    by true e = e
    by false e =
        let own : eq_by_cmp nat_cmp n n ≡ true = same_test n n ∙ eq-eqb n n refl in
        let g : get (insert N n empty) n ≡ Some empty = get-insert nat_cmp_total N n empty n ∙ ap (λ (t : Bool). cond t (Some empty) (get N n)) own in
        rw g refl

-- ---- marks

pub get_replace : (N : Invalids) (n s : ℕ) (m o : Invalid) → get N n ≡ Some o → get (replace N n m) s ≡ cond (nat_eq n s) (Some m) (get N s)
get_replace N n s m o h =
    let there : IsSome (get N n) = rw h refl in
    lookup-set_value (eq_by_cmp_equiv nat_cmp_total) (is_at (nat_cmp n)) (λ x y t. (eq_by_cmp_equiv nat_cmp_total).congr n x y t) s m N.pairs there
    ∙ ap (λ (t : Bool). cond t (Some m) (get N s)) (same_test n s)

-- whether a mark is of x in the set of s
abbrev pub is_of : ℕ → Oref → ℕ × Oref → Bool
is_of s x t = nat_eq t.0 s && same_oref x t.1

-- what one mark t leaves of the session s, where e says whether it is the mark's
abbrev pub Leaves : Invalids → ℕ × Oref → ℕ → ℕ → Oref → Invalids → Bool → Type 0
Leaves N t k s x M e = (has M s ≡ true) × (get (set_of M s) x ≡ cond (e && same_oref x t.1) (Some k) (get (set_of N s) x))

marked_one : (N : Invalids) (t : ℕ × Oref) (k s : ℕ) (x : Oref) → has N s ≡ true → (has (mark N t.0 t.1 k) s ≡ true) × (get (set_of (mark N t.0 t.1 k) s) x ≡ cond (is_of s x t) (Some k) (get (set_of N s) x))
marked_one N t k s x h = by (get N t.0) refl (nat_eq t.0 s) refl
  where
    by : (o : Option Invalid) → get N t.0 ≡ o → (e : Bool) → nat_eq t.0 s ≡ e → Leaves N t k s x (changed N t.0 (λ m. insert m t.1 k) o) e
    by None f true g = let a : t.0 ≡ s = eqb-true t.0 s g in let b : get N s ≡ None = ap (get N) (sym a) ∙ f in let c : is_some (get N s) ≡ false = ap is_some b in let d : is_some (get N s) ≡ true = h in absurd cc
    by None f false g = (h, refl)
    by (Some m) f true g =
        let a : t.0 ≡ s = eqb-true t.0 s g in
        let b : get N s ≡ Some m = ap (get N) (sym a) ∙ f in
        let c : get (replace N t.0 (insert m t.1 k)) s ≡ Some (insert m t.1 k) = get_replace N t.0 s (insert m t.1 k) m f ∙ ap (λ (u : Bool). cond u (Some (insert m t.1 k)) (get N s)) g in
        (rw c refl, rw (c, b) (get-insert oref_total m t.1 k x))
    by (Some m) f false g =
        let c : get (replace N t.0 (insert m t.1 k)) s ≡ get N s = get_replace N t.0 s (insert m t.1 k) m f ∙ ap (λ (u : Bool). cond u (Some (insert m t.1 k)) (get N s)) g in
        (rw c h, rw c refl)

marked_all : (N : Invalids) (ts : List (ℕ × Oref)) (k s : ℕ) (x : Oref) → has N s ≡ true → get (set_of (marked N ts k) s) x ≡ cond (list_any (is_of s x) ts) (Some k) (get (set_of N s) x)
marked_all N [] k s x h = refl
marked_all N (t ∷ ts) k s x h =
    let one = marked_one N t k s x h in
    marked_all (mark N t.0 t.1 k) ts k s x one.0 ∙ ap (cond (list_any (is_of s x) ts) (Some k)) one.1 ∙ by (is_of s x t) (list_any (is_of s x) ts)
  where
    by : (a b : Bool) → cond b (Some k) (cond a (Some k) (get (set_of N s) x)) ≡ cond (a || b) (Some k) (get (set_of N s) x)
    by true true = refl
    by true false = refl
    by false true = refl
    by false false = refl

-- ---- who is touched

-- of the sessions that have a page, s is one where it has it
one_of_lefts : (C : List (ℕ × ℕ)) (s page : ℕ) → list_any (λ n. nat_eq n s) (lefts C page) ≡ is_linked C s page
one_of_lefts [] s page = refl
one_of_lefts (p ∷ ps) s page = by (nat_eq p.1 page) (nat_eq p.0 s) refl (one_of_lefts ps s page)
  where
    by : (a b : Bool) → nat_eq p.0 s ≡ b → list_any (λ n. nat_eq n s) (lefts ps page) ≡ is_linked ps s page
        → list_any (λ n. nat_eq n s) (map (λ q. q.0) (cond a (p ∷ filter (λ q. nat_eq q.1 page) ps) (filter (λ q. nat_eq q.1 page) ps))) ≡ ((b && a) || is_linked ps s page)
    by true true e more = rw e refl
    by true false e more = rw e more
    by false true e more = more
    by false false e more = more

one_of_others : (w s : ℕ) (xs : List ℕ) → list_any (λ n. nat_eq n s) (filter (λ n. not (nat_eq n w)) xs) ≡ (not (nat_eq s w) && list_any (λ n. nat_eq n s) xs)
one_of_others w s [] = by (not (nat_eq s w))
  where
    by : (t : Bool) → false ≡ (t && false)
    by true = refl
    by false = refl
one_of_others w s (n ∷ ns) = by (nat_eq n w) refl (nat_eq n s) refl (nat_eq s w) refl (one_of_others w s ns)
  where
    by : (a : Bool) → nat_eq n w ≡ a → (b : Bool) → nat_eq n s ≡ b → (c : Bool) → nat_eq s w ≡ c
        → list_any (λ n. nat_eq n s) (filter (λ n. not (nat_eq n w)) ns) ≡ (not c && list_any (λ n. nat_eq n s) ns)
        → list_any (λ n. nat_eq n s) (cond (not a) (n ∷ filter (λ n. not (nat_eq n w)) ns) (filter (λ n. not (nat_eq n w)) ns)) ≡ (not c && (b || list_any (λ n. nat_eq n s) ns))
    by true e true f true g more = more
    by true e true f false g more =
        let i : n ≡ s = eqb-true n s f in
        let j : nat_eq s w ≡ true = rw (← i) e in
        cc
    by true e false f c g more = more
    by false e true f true g more =
        let i : n ≡ s = eqb-true n s f in
        let j : nat_eq s w ≡ false = rw (← i) e in
        cc
    by false e true f false g more = rw f refl
    by false e false f c g more = rw f more

with_name : (s : ℕ) (x y : Oref) (ns : List ℕ) → list_any (is_of s x) (map (λ n. (n, y)) ns) ≡ (list_any (λ n. nat_eq n s) ns && same_oref x y)
with_name s x y [] = refl
with_name s x y (n ∷ ns) = by (nat_eq n s) (same_oref x y) (list_any (λ n. nat_eq n s) ns) (with_name s x y ns)
  where
    by : (a b c : Bool) → list_any (is_of s x) (map (λ n. (n, y)) ns) ≡ (c && b) → ((a && b) || list_any (is_of s x) (map (λ n. (n, y)) ns)) ≡ ((a || c) && b)
    by true true c more = refl
    by true false true more = more
    by true false false more = more
    by false b c more = more

touched_any : (C : List (ℕ × ℕ)) (w s : ℕ) (x : Oref) (names : List Oref) → list_any (is_of s x) (touches C w names) ≡ (not (nat_eq s w) && is_linked C s x.page && is_among names x)
touched_any C w s x [] = by (not (nat_eq s w) && is_linked C s x.page)
  where
    by : (t : Bool) → false ≡ (t && false)
    by true = refl
    by false = refl
touched_any C w s x (y ∷ ys) =
    any_append (is_of s x) (map (λ n. (n, y)) (holders C w y)) (touches C w ys)
    ∙ ap (λ (t : Bool). t || list_any (is_of s x) (touches C w ys)) (with_name s x y (holders C w y) ∙ ap (λ (t : Bool). t && same_oref x y) (one_of_others w s (lefts C y.page) ∙ ap (λ (t : Bool). not (nat_eq s w) && t) (one_of_lefts C s y.page)))
    ∙ ap (λ (t : Bool). ((not (nat_eq s w) && is_linked C s y.page) && same_oref x y) || t) (touched_any C w s x ys)
    ∙ by (same_oref x y) refl
  where
    each : (p m : Bool) → ((p && true) || (p && m)) ≡ (p && true)
    each true m = refl
    each false m = refl

    none : (p q m : Bool) → ((p && false) || (q && m)) ≡ (q && m)
    none true q m = refl
    none false q m = refl

    by : (t : Bool) → same_oref x y ≡ t
        → (((not (nat_eq s w) && is_linked C s y.page) && t) || ((not (nat_eq s w) && is_linked C s x.page) && is_among ys x)) ≡ ((not (nat_eq s w) && is_linked C s x.page) && (t || is_among ys x))
    by true e = let a : x ≡ y = oref_exact x y (equal (oref_cmp x y) e) in rw (← a) (each (not (nat_eq s w) && is_linked C s x.page) (is_among ys x))
    by false e = none (not (nat_eq s w) && is_linked C s y.page) (not (nat_eq s w) && is_linked C s x.page) (is_among ys x)

pub touched : (S : Sets) (w : ℕ) (names : List Oref) (k s : ℕ) (x : Oref) → has S.invalid s ≡ true
    → place_in (touch S w names k) s x ≡ cond (not (nat_eq s w) && has_page S s x.page && is_among names x) (Some k) (place_in S s x)
touched S w names k s x h = marked_all S.invalid (touches S.cached w names) k s x h ∙ ap (λ (t : Bool). cond t (Some k) (place_in S s x)) (touched_any S.cached w s x names)
