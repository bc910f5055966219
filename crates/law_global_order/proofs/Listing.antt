-- The commits, computed: each committed transaction is among them once, as a whole, and they rise.
use Rattle.law_atomic_commit.proofs.Parts.{committed-from, has-committed}
use Rattle.law_atomic_commit.specs.Several.{AreSound, HasCommitted, Several, committed, part}
use Rattle.log_entries.specs.declared.request.Request.{Request}
use Rattle.spec_history.proofs.Decided.{sorted_state}
use Rattle.spec_history.specs.History.{Known, or_lost, state}
use Rattle.std.proofs.Common.{Bool, List, [], ap, arith, eq-eqb, false, inl, inr, refl, subst, sym, true, ℕ, ◌++◌, ◌<◌, ◌≡◌, ◌∙◌, ◌∷◌}
use Rattle.std.proofs.lemmas.Bool.{eqb-true, and_from, and_parts}
use Rattle.std.proofs.lemmas.Cmp.{eq_by_cmp_equiv, tied_itself}
use Rattle.std.proofs.lemmas.Map.Keys.{IsDistinct-from_sorted}
use Rattle.std.proofs.lemmas.Map.Views.{lookup-from_Contains, tells_apart}
use Rattle.std.proofs.lemmas.Option.{same_Some}
use Rattle.std.specs.BTreeMap.{is_at}
use Rattle.std.specs.List.{AllByRecursion, flat_map, range_with_len}
use Rattle.std.specs.List.Sorted.{IsStrictlySortedBy}
use Rattle.std.specs.Map.{keys_of, lookup}
use Rattle.std.specs.Option.{option_map}
use Rattle.std.specs.Ordering.{eq_by_cmp, is_eq}
use Rattle.std.specs.Prelude.{None, Option, Some, cond, nat_eq, ◌&&◌, ◌⊎◌}
use Rattle.std.specs.declared.cmp.Ordering.TheVariants.{Less}
use Rattle.thor_value.proofs.FiniteMap.{IsSorted-insert, get-insert}
use Rattle.thor_value.proofs.NameOrders.{ts_exact, ts_total}
use Rattle.thor_value.specs.FiniteMap.{IsSorted, Map, empty, get, insert, overwrite}
use Rattle.thor_value.specs.Names.{ts_cmp}
use Rattle.thor_value.specs.declared.names.Ts.{Ts}
use Rattle.law_global_order.proofs.Lists.{AllAfter, Es, In, Lists, Rising, from-in, in-flat, of-flat, range-has}
use Rattle.law_global_order.proofs.Turns.{in-range}
use Rattle.law_global_order.specs.Whole.{AreTheCommits, Commit, commits, committed_among, committed_at, whole}

-- ---- maps by timestamps

is-itself : (t : Ts) → eq_by_cmp ts_cmp t t ≡ true
is-itself t = ap is_eq (tied_itself ts_total t)

module _ {X : Type 0} where
  found-in : (es : List (Ts × X)) (t : Ts) (v : X) → lookup (is_at (ts_cmp t)) es ≡ Some v → In (t, v) es
  found-in [] t v h = cc
  found-in (e ∷ es) t v h = by (is_at (ts_cmp t) e.0) refl (found-in es t v) h
    where
      by : (k : Bool) → is_at (ts_cmp t) e.0 ≡ k → (lookup (is_at (ts_cmp t)) es ≡ Some v → In (t, v) es) → cond k (Some e.1) (lookup (is_at (ts_cmp t)) es) ≡ Some v → In (t, v) (e ∷ es)
      by true k more g = inl (ap (λ (u : Ts). (u, e.1)) (sym (tells_apart ts_exact t e.0 k)) ∙ ap (λ (x : X). (t, x)) (same_Some e.1 v g))
      by false k more g = inr (more g)

  in-found : (m : Map ts_cmp X) → IsSorted m → (t : Ts) (v : X) → In (t, v) m.pairs → get m t ≡ Some v
  in-found m sorted t v i = lookup-from_Contains (eq_by_cmp_equiv ts_total) t v m.pairs (IsDistinct-from_sorted ts_cmp _ sorted) (from-in m.pairs (t, v) i)

  sorted-over : (m : Map ts_cmp X) (L : List (Ts × X)) → IsSorted m → IsSorted (overwrite m L)
  sorted-over m [] h = h
  sorted-over m (e ∷ L) h = sorted-over (insert m e.0 e.1) L (IsSorted-insert ts_total m e.0 e.1 h)

  over-in : (m : Map ts_cmp X) (L : List (Ts × X)) (t : Ts) (v : X) → get (overwrite m L) t ≡ Some v → In (t, v) L ⊎ (get m t ≡ Some v)
  over-in m [] t v h = inr h
  over-in m (e ∷ L) t v h = by (over-in (insert m e.0 e.1) L t v h)
    where
      at : (k : Bool) → eq_by_cmp ts_cmp t e.0 ≡ k → cond k (Some e.1) (get m t) ≡ Some v → In (t, v) (e ∷ L) ⊎ (get m t ≡ Some v)
      at true k g = inl (inl (ap (λ (u : Ts). (u, e.1)) (sym (tells_apart ts_exact t e.0 k)) ∙ ap (λ (x : X). (t, x)) (same_Some e.1 v g)))
      at false k g = inr g

      by : In (t, v) L ⊎ (get (insert m e.0 e.1) t ≡ Some v) → In (t, v) (e ∷ L) ⊎ (get m t ≡ Some v)
      by (inl i) = inl (inr i)
      by (inr g) = at (eq_by_cmp ts_cmp t e.0) refl (sym (get-insert ts_total m e.0 e.1 t) ∙ g)

  over-same : (m : Map ts_cmp X) (L : List (Ts × X)) (t : Ts) (v : X) → ((u : X) → In (t, u) L → u ≡ v) → (get m t ≡ Some v) ⊎ In (t, v) L → get (overwrite m L) t ≡ Some v
  over-same m [] t v all (inl h) = h
  over-same m [] t v all (inr i) = absurd i
  over-same m (e ∷ L) t v all h = over-same (insert m e.0 e.1) L t v (λ u i. all u (inr i)) (by (eq_by_cmp ts_cmp t e.0) refl h)
    where
      put : (k : Bool) → eq_by_cmp ts_cmp t e.0 ≡ k → get (insert m e.0 e.1) t ≡ cond k (Some e.1) (get m t)
      put k is = get-insert ts_total m e.0 e.1 t ∙ ap (λ (x : Bool). cond x (Some e.1) (get m t)) is

      by : (k : Bool) → eq_by_cmp ts_cmp t e.0 ≡ k → (get m t ≡ Some v) ⊎ In (t, v) (e ∷ L) → (get (insert m e.0 e.1) t ≡ Some v) ⊎ In (t, v) L
      by true k g = inl (put true k ∙ ap Some (all e.1 (inl (ap (λ (u : Ts). (u, e.1)) (sym (tells_apart ts_exact t e.0 k))))))
      by false k (inl g) = inl (put false k ∙ g)
      by false k (inr (inl is)) = let same : eq_by_cmp ts_cmp t e.0 ≡ true = ap (λ (p : Ts × X). eq_by_cmp ts_cmp t p.0) is ∙ is-itself t in cc
      by false k (inr (inr i)) = inr i

rising-sorted : (es : Es) → IsStrictlySortedBy ts_cmp (keys_of es) → Rising es
unfolding IsStrictlySortedBy
rising-sorted [] h = tt
rising-sorted (e ∷ es) h = (behind es h.0, rising-sorted es h.1)
  where
    behind : (fs : Es) → AllByRecursion (λ y. ts_cmp e.0 y ≡ Less) (keys_of fs) → AllAfter e.0 fs
    behind [] g = tt
    behind (f ∷ fs) g = (g.0, behind fs g.1)

none-sorted : IsSorted {R = ts_cmp} (empty {X = Request})
unfolding IsStrictlySortedBy
none-sorted = tt

no-request : {A : Type 0} (q : Request) → ◌≡◌ {A = Option Request} None (Some q) → A
no-request q e = cc

-- ---- the commits

module _ (S : Several) where
  of-among : (r : ℕ) (ps : List (Ts × Known)) (e : Commit) → In e (committed_among S r ps) → (p : Known) × In (e.0, p) ps × (e.0.repo ≡ r) × (committed S e.0 ≡ true) × (e.1 ≡ whole S e.0 p.request)
  of-among r [] e i = absurd i
  of-among r (p ∷ ps) e i = by (nat_eq p.0.repo r && committed S p.0) refl (of-among r ps e) i
    where
      later : (x : (v : Known) × In (e.0, v) ps × (e.0.repo ≡ r) × (committed S e.0 ≡ true) × (e.1 ≡ whole S e.0 v.request)) → (v : Known) × In (e.0, v) (p ∷ ps) × (e.0.repo ≡ r) × (committed S e.0 ≡ true) × (e.1 ≡ whole S e.0 v.request)
      later x = (x.0, inr x.1, x.2, x.3, x.4)

      by : (k : Bool) → (nat_eq p.0.repo r && committed S p.0) ≡ k → (In e (committed_among S r ps) → (v : Known) × In (e.0, v) ps × (e.0.repo ≡ r) × (committed S e.0 ≡ true) × (e.1 ≡ whole S e.0 v.request))
          → In e (cond k ((p.0, whole S p.0 p.1.request) ∷ committed_among S r ps) (committed_among S r ps)) → (v : Known) × In (e.0, v) (p ∷ ps) × (e.0.repo ≡ r) × (committed S e.0 ≡ true) × (e.1 ≡ whole S e.0 v.request)
      by true k more (inl is) =
          let b = and_parts (nat_eq p.0.repo r) (committed S p.0) k in
          let t : p.0 ≡ e.0 = ap (λ (f : Commit). f.0) is in
          (p.1, inl (ap (λ (u : Ts). (u, p.1)) t), ap (λ (u : Ts). u.repo) (sym t) ∙ eqb-true p.0.repo r b.0, ap (committed S) (sym t) ∙ b.1, ap (λ (f : Commit). f.1) (sym is) ∙ ap (λ (u : Ts). whole S u p.1.request) t)
      by true k more (inr j) = later (more j)
      by false k more j = later (more j)

  in-among : (r : ℕ) (ps : List (Ts × Known)) (t : Ts) (p : Known) → In (t, p) ps → t.repo ≡ r → committed S t ≡ true → In (t, whole S t p.request) (committed_among S r ps)
  in-among r [] t p i same c = absurd i
  in-among r (q ∷ qs) t p i same c = by (nat_eq q.0.repo r && committed S q.0) refl (λ j. in-among r qs t p j same c) i
    where
      by : (k : Bool) → (nat_eq q.0.repo r && committed S q.0) ≡ k → (In (t, p) qs → In (t, whole S t p.request) (committed_among S r qs)) → In (t, p) (q ∷ qs) → In (t, whole S t p.request) (cond k ((q.0, whole S q.0 q.1.request) ∷ committed_among S r qs) (committed_among S r qs))
      by true k more (inl is) = inl (ap (λ (x : Ts × Known). (x.0, whole S x.0 x.1.request)) is)
      by true k more (inr j) = inr (more j)
      by false k more (inl is) =
          let e : (nat_eq q.0.repo r && committed S q.0) ≡ true = ap (λ (x : Ts × Known). nat_eq x.0.repo r && committed S x.0) is ∙ and_from (nat_eq t.repo r) (committed S t) (eq-eqb t.repo r same) c in cc
      by false k more (inr j) = more j

  module _ (sd : AreSound S) where
    of-all : (e : Commit) → In e (flat_map (committed_at S) (range_with_len 0 S.repos)) → (w : Known) × HasCommitted S e.0 w × (e.1 ≡ whole S e.0 w.request)
    of-all e i =
        let k = of-flat (committed_at S) (range_with_len 0 S.repos) e i in
        let r : ℕ = k.0 in
        let a = of-among r (state (S.base r) (S.history r)).known.pairs e k.1 in
        let w = has-committed S e.0 a.3 in
        let known : get (state (S.base r) (S.history r)).known e.0 ≡ Some a.0 = in-found (state (S.base r) (S.history r)).known (sorted_state (S.base r) (S.history r)) e.0 a.0 a.1 in
        let here : part S e.0.repo e.0 ≡ Some (or_lost (S.base r) (state (S.base r) (S.history r)) e.0 a.0) = ap (λ n. part S n e.0) a.2 ∙ ap (option_map (or_lost (S.base r) (state (S.base r) (S.history r)) e.0)) known in
        let same : a.0.request ≡ w.0.request = ap (λ (v : Known). v.request) (same_Some (or_lost (S.base r) (state (S.base r) (S.history r)) e.0 a.0) w.0 (sym here ∙ w.1.there)) in
        (w.0, w.1, a.4 ∙ ap (whole S e.0) same)

    known-as : (r : ℕ) (t : Ts) (w : Known) (k : Option Known) → get (state (S.base r) (S.history r)).known t ≡ k → option_map (or_lost (S.base r) (state (S.base r) (S.history r)) t) k ≡ Some w → (p : Known) × (get (state (S.base r) (S.history r)).known t ≡ Some p) × (p.request ≡ w.request)
    known-as r t w None is h = cc
    known-as r t w (Some p) is h = (p, is, ap (λ (v : Known). v.request) (same_Some (or_lost (S.base r) (state (S.base r) (S.history r)) t p) w h))

    in-all : (t : Ts) (w : Known) → HasCommitted S t w → In (t, whole S t w.request) (flat_map (committed_at S) (range_with_len 0 S.repos))
    in-all t w h =
        let k = known-as t.repo t w (get (state (S.base t.repo) (S.history t.repo)).known t) refl h.there in
        let i = in-among t.repo (state (S.base t.repo) (S.history t.repo)).known.pairs t k.0 (found-in (state (S.base t.repo) (S.history t.repo)).known.pairs t k.0 k.1) refl (committed-from S t w h) in
        let l : t.repo < S.repos = in-range S sd t.repo t w h.there in
        in-flat (committed_at S) (range_with_len 0 S.repos) t.repo (t, whole S t w.request) (range-has 0 S.repos t.repo (omega arith) (omega (arith, l))) (subst (λ (q : Request). In (t, whole S t q) (committed_at S t.repo)) k.2 i)

    sorted : IsSorted (commits S)
    sorted = sorted-over empty (flat_map (committed_at S) (range_with_len 0 S.repos)) none-sorted

    stand : (t : Ts) (q : Request) → get (commits S) t ≡ Some q → (w : Known) × HasCommitted S t w × (q ≡ whole S t w.request)
    stand t q is = elim (over-in empty (flat_map (committed_at S) (range_with_len 0 S.repos)) t q is) [
      | inl j ↦ of-all (t, q) j
      | inr none ↦ no-request q none
    ]

    all : (t : Ts) (w : Known) → HasCommitted S t w → get (commits S) t ≡ Some (whole S t w.request)
    all t w h = over-same empty (flat_map (committed_at S) (range_with_len 0 S.repos)) t (whole S t w.request)
        (λ q j. let k = of-all (t, q) j in k.2 ∙ ap (λ (v : Known). whole S t v.request) (same_Some k.0 w (sym k.1.there ∙ h.there)))
        (inr (in-all t w h))

    pub are-the-commits : AreTheCommits S (commits S)
    are-the-commits = record { rise = sorted; stand = stand; all = all }

    pub listed : Lists S (commits S).pairs
    listed = record {
      rise = rising-sorted (commits S).pairs sorted;
      stand = λ e i. stand e.0 e.1 (in-found (commits S) sorted e.0 e.1 i);
      all = λ t w h. found-in (commits S).pairs t (whole S t w.request) (all t w h);
    }

    -- the same, where they are told by those before a turn
    pub listed-at : (done rest : Es) (e : Commit) → (commits S).pairs ≡ done ++ e ∷ rest → Lists S (done ++ e ∷ rest)
    listed-at done rest e is = subst (Lists S) is listed
