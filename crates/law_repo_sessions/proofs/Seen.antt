-- What the calls do to what is kept of one session.
use Rattle.cached_sets.proofs.Meaning.{get_replace, same_test, touched}
use Rattle.cached_sets.specs.Invalid.{Invalid, Invalids, change, changed, from, mark, replace, set_of}
use Rattle.cached_sets.specs.Meaning.{has_page, place_in}
use Rattle.cached_sets.specs.Sets as sets
use Rattle.cached_sets.specs.Sets.{Sets, marked, touches}
use Rattle.link_table.specs.Pairs.{is_linked, unlink_left}
use Rattle.session_outbox.specs.Outbox as outbox
use Rattle.session_outbox.specs.Outbox.{Waiting, pushed_to, taken_from}
use Rattle.session_outbox.specs.declared.message.Message.{Message}
use Rattle.std.proofs.Common.{Bool, List, [], ap, cond, false, nat_eq, refl, subst, sym, true, ◌++◌, ◌∙◌, ◌∷◌, ◌≡◌, ℕ, drop}
use Rattle.std.proofs.lemmas.Bool.{eqb-true}
use Rattle.std.proofs.lemmas.Map.{keys-set_value}
use Rattle.std.proofs.lemmas.Cmp.{nat_eq_equiv}
use Rattle.std.specs.BTreeMap.{is_at}
use Rattle.std.specs.List.Sorted.{IsStrictlySortedBy}
use Rattle.std.specs.Cmp.{nat_cmp_total}
use Rattle.std.specs.Option.{is_some, unwrap_or}
use Rattle.std.specs.Ordering.{nat_cmp}
use Rattle.std.specs.Prelude.{None, Option, Some, not, ◌&&◌, ◌||◌}
use Rattle.thor_value.proofs.FiniteMap.{IsSorted-insert, get-insert, get-remove}
use Rattle.thor_value.specs.FiniteMap.{IsSorted, Map, empty, get, has, insert, remove}
use Rattle.thor_value.specs.declared.names.Oref.{Oref}
use Rattle.validation_queue.specs.Names.{is_among}

-- ---- maps from numbers

pub get_put : {X : Type 0} (m : Map nat_cmp X) (n s : ℕ) (v : X) → get (insert m n v) s ≡ cond (nat_eq n s) (Some v) (get m s)
get_put m n s v = get-insert nat_cmp_total m n v s ∙ ap (λ (t : Bool). cond t (Some v) (get m s)) (same_test s n ∙ nat_eq_equiv.symm s n)

pub get_without : {X : Type 0} (m : Map nat_cmp X) (n s : ℕ) → IsSorted m → get (remove m n) s ≡ cond (nat_eq n s) None (get m s)
get_without m n s h = get-remove nat_cmp_total m n s h ∙ ap (λ (t : Bool). cond t None (get m s)) (same_test n s)

-- ---- what waits stays in the order of its keys

pub pushed_order : (W : Waiting) (n : ℕ) (m : Message) → IsSorted W → IsSorted (outbox.push W n m)
pushed_order W n m h = by (get W n)
  where
    by : (o : Option (List Message)) → IsSorted (pushed_to W n m o)
    by None = IsSorted-insert nat_cmp_total W n (m ∷ []) h
    by (Some ms) = subst (IsStrictlySortedBy nat_cmp) (sym (keys-set_value (is_at (nat_cmp n)) W.pairs (ms ++ m ∷ []))) h

pub taken_order : (W : Waiting) (n : ℕ) → IsSorted W → IsSorted (outbox.take W n)
taken_order W n h = by (get W n)
  where
    by : (o : Option (List Message)) → IsSorted (taken_from W n o)
    by None = h
    by (Some ms) = subst (IsStrictlySortedBy nat_cmp) (sym (keys-set_value (is_at (nat_cmp n)) W.pairs (drop 1 ms))) h

-- ---- a page is cached

pub place_cached : (S : Sets) (n page s : ℕ) (x : Oref) → place_in (sets.cache S n page) s x ≡ place_in S s x
place_cached S n page s x = by (has S.invalid n) refl (nat_eq n s) refl
  where
    none : (o : Option Invalid) → is_some o ≡ false → o ≡ None
    none None e = refl
    none (Some m) e = cc

    by : (t : Bool) → has S.invalid n ≡ t → (u : Bool) → nat_eq n s ≡ u → get (set_of (cond t S.invalid (insert S.invalid n empty)) s) x ≡ get (set_of S.invalid s) x
    by true e u f = refl
    by false e true f =
        let a : n ≡ s = eqb-true n s f in
        let g : get S.invalid s ≡ None = none (get S.invalid s) (ap (λ (k : ℕ). has S.invalid k) (sym a) ∙ e) in
        let h : get (insert S.invalid n empty) s ≡ Some empty = get_put S.invalid n s empty ∙ ap (λ (t : Bool). cond t (Some empty) (get S.invalid s)) f in
        rw (h, g) refl
    by false e false f =
        let h : get (insert S.invalid n empty) s ≡ get S.invalid s = get_put S.invalid n s empty ∙ ap (λ (t : Bool). cond t (Some empty) (get S.invalid s)) f in
        rw h refl

pub set_cached : (S : Sets) (n page s : ℕ) → has S.invalid s ≡ true → has (sets.cache S n page).invalid s ≡ true
set_cached S n page s h = by (has S.invalid n) (nat_eq n s) refl
  where
    put : (u : Bool) → nat_eq n s ≡ u → has (insert S.invalid n empty) s ≡ true
    put true f = ap (λ (o : Option Invalid). is_some o) (get_put S.invalid n s empty ∙ ap (λ (t : Bool). cond t (Some empty) (get S.invalid s)) f)
    put false f = ap (λ (o : Option Invalid). is_some o) (get_put S.invalid n s empty ∙ ap (λ (t : Bool). cond t (Some empty) (get S.invalid s)) f) ∙ h

    by : (t u : Bool) → nat_eq n s ≡ u → has (cond t S.invalid (insert S.invalid n empty)) s ≡ true
    by true u f = h
    by false u f = put u f

-- ---- a session's pages end

dropped_page : (C : List (ℕ × ℕ)) (n s p : ℕ) → is_linked (unlink_left C n) s p ≡ (not (nat_eq n s) && is_linked C s p)
dropped_page [] n s p = by (nat_eq n s)
  where
    by : (t : Bool) → false ≡ (not t && false)
    by true = refl
    by false = refl
dropped_page (q ∷ qs) n s p = by (nat_eq q.0 n) refl (nat_eq n s) refl (nat_eq q.0 s) refl (dropped_page qs n s p)
  where
    by : (a : Bool) → nat_eq q.0 n ≡ a → (t : Bool) → nat_eq n s ≡ t → (c : Bool) → nat_eq q.0 s ≡ c
        → is_linked (unlink_left qs n) s p ≡ (not t && is_linked qs s p)
        → is_linked (cond (not a) (q ∷ unlink_left qs n) (unlink_left qs n)) s p ≡ (not t && ((c && nat_eq q.1 p) || is_linked qs s p))
    by true e true f c g more = more
    by true e false f true g more =
        let i : q.0 ≡ n = eqb-true q.0 n e in
        let j : nat_eq q.0 s ≡ false = ap (λ (k : ℕ). nat_eq k s) i ∙ f in
        cc
    by true e false f false g more = more
    by false e true f true g more =
        let i : n ≡ s = eqb-true n s f in
        let j : nat_eq q.0 s ≡ false = ap (λ (k : ℕ). nat_eq q.0 k) (sym i) ∙ e in
        cc
    by false e true f false g more = ap (λ (t : Bool). (t && nat_eq q.1 p) || is_linked (unlink_left qs n) s p) g ∙ more
    by false e false f c g more = ap (λ (t : Bool). (t && nat_eq q.1 p) || is_linked (unlink_left qs n) s p) g ∙ ap (λ (t : Bool). (c && nat_eq q.1 p) || t) more

pub page_dropped : (S : Sets) (n s p : ℕ) → has_page (sets.drop_session S n) s p ≡ (not (nat_eq n s) && has_page S s p)
page_dropped S n s p = dropped_page S.cached n s p

-- ---- objects are written

none_replaced : (N : Invalids) (n s : ℕ) (m o : Invalid) → get N n ≡ Some o → get N s ≡ None → get (replace N n m) s ≡ None
none_replaced N n s m o e h = get_replace N n s m o e ∙ by (nat_eq n s) refl
  where
    by : (t : Bool) → nat_eq n s ≡ t → cond t (Some m) (get N s) ≡ None
    by true f = let a : n ≡ s = eqb-true n s f in let b : get N s ≡ Some o = ap (get N) (sym a) ∙ e in cc
    by false f = h

none_changed : (N : Invalids) (n s : ℕ) (f : Invalid → Invalid) → get N s ≡ None → get (change N n f) s ≡ None
none_changed N n s f h = by (get N n) refl
  where
    by : (o : Option Invalid) → get N n ≡ o → get (changed N n f o) s ≡ None
    by None e = h
    by (Some m) e = none_replaced N n s (f m) m e h

none_marked : (N : Invalids) (ts : List (ℕ × Oref)) (k s : ℕ) → get N s ≡ None → get (marked N ts k) s ≡ None
none_marked N [] k s h = h
none_marked N (t ∷ ts) k s h = none_marked (mark N t.0 t.1 k) ts k s (none_changed N t.0 s (λ m. insert m t.1 k) h)

-- a set that is there stays
kept_changed : (N : Invalids) (n s : ℕ) (f : Invalid → Invalid) → has N s ≡ true → has (change N n f) s ≡ true
kept_changed N n s f h = by (get N n) refl (nat_eq n s) refl
  where
    by : (o : Option Invalid) → get N n ≡ o → (t : Bool) → nat_eq n s ≡ t → has (changed N n f o) s ≡ true
    by None e t g = h
    by (Some m) e true g = ap (λ (o : Option Invalid). is_some o) (get_replace N n s (f m) m e ∙ ap (λ (t : Bool). cond t (Some (f m)) (get N s)) g)
    by (Some m) e false g = ap (λ (o : Option Invalid). is_some o) (get_replace N n s (f m) m e ∙ ap (λ (t : Bool). cond t (Some (f m)) (get N s)) g) ∙ h

pub kept_marked : (N : Invalids) (ts : List (ℕ × Oref)) (k s : ℕ) → has N s ≡ true → has (marked N ts k) s ≡ true
kept_marked N [] k s h = h
kept_marked N (t ∷ ts) k s h = kept_marked (mark N t.0 t.1 k) ts k s (kept_changed N t.0 s (λ m. insert m t.1 k) h)

pub kept_acknowledged : (S : Sets) (n upto s : ℕ) → has S.invalid s ≡ true → has (sets.acknowledge S n upto).invalid s ≡ true
kept_acknowledged S n upto s h = kept_changed S.invalid n s (from upto) h

-- also of a session that has no invalid set, where that has no page either
pub place_touched : (S : Sets) (w : ℕ) (names : List Oref) (k s : ℕ) (x : Oref) → (has_page S s x.page ≡ true → has S.invalid s ≡ true)
    → place_in (sets.touch S w names k) s x ≡ cond (not (nat_eq s w) && has_page S s x.page && is_among names x) (Some k) (place_in S s x)
place_touched S w names k s x h = by (has S.invalid s) refl
  where
    none : (o : Option Invalid) → is_some o ≡ false → o ≡ None
    none None e = refl
    none (Some m) e = cc

    no_page : (t : Bool) → has_page S s x.page ≡ t → has S.invalid s ≡ false → t ≡ false
    no_page true e f = let g : has S.invalid s ≡ true = h e in cc
    no_page false e f = refl

    unmarked : (a c : Bool) → ((a && false) && c) ≡ false
    unmarked true c = refl
    unmarked false c = refl

    by : (t : Bool) → has S.invalid s ≡ t → get (set_of (marked S.invalid (touches S.cached w names) k) s) x ≡ cond (not (nat_eq s w) && has_page S s x.page && is_among names x) (Some k) (place_in S s x)
    by true e = touched S w names k s x e
    by false e =
        let g : get S.invalid s ≡ None = none (get S.invalid s) e in
        let m : get (marked S.invalid (touches S.cached w names) k) s ≡ None = none_marked S.invalid (touches S.cached w names) k s g in
        let p : has_page S s x.page ≡ false = no_page (has_page S s x.page) refl e in
        let u : (not (nat_eq s w) && has_page S s x.page && is_among names x) ≡ false = ap (λ (t : Bool). (not (nat_eq s w) && t) && is_among names x) p ∙ unmarked (not (nat_eq s w)) (is_among names x) in
        let l : place_in S s x ≡ None = ap (λ (o : Option Invalid). get (unwrap_or o empty) x) g in
        ap (λ (o : Option Invalid). get (unwrap_or o empty) x) m ∙ sym l ∙ sym (ap (λ (t : Bool). cond t (Some k) (place_in S s x)) u)
