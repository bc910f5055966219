-- Which transactions are undecided behind one more entry.
use Rattle.log_entries.specs.declared.entry.Entry.TheVariants.{Life, One, Prepared, Upgraded}
use Rattle.log_entries.specs.declared.request.Request.{Request}
use Rattle.spec_history.proofs.Places.{Placed}
use Rattle.spec_history.proofs.Steps.{not_lost}
use Rattle.spec_history.specs.History.{Aborted, Base, Committed, Fate, Known, Open, State, is_open, known_in, lapse, or_lost, put, settle, settle_by}
use Rattle.law_repo_memory.proofs.Maps.{ap-cond, map-cond}
use Rattle.law_repo_memory.specs.Tables.{undecided_request}
use Rattle.std.proofs.Common.{Bool, ap, cond, refl, subst, sym, ◌≡◌, ◌∙◌, ◌<◌, ℕ}
use Rattle.std.proofs.lemmas.Bool.{lt-ltb}
use Rattle.std.specs.Option.{option_map}
use Rattle.std.specs.Ordering.{eq_by_cmp}
use Rattle.std.specs.Prelude.{None, Option, Some, false, nat_eq, nat_lt, true, ◌&&◌}
use Rattle.thor_value.proofs.FiniteMap.{get-insert}
use Rattle.thor_value.proofs.NameOrders.{ts_total}
use Rattle.thor_value.specs.FiniteMap.{get, insert}
use Rattle.thor_value.specs.Names.{ts_cmp}
use Rattle.thor_value.specs.declared.names.Ts.{Ts}

module _ (b : Base) (S : State) where
  -- how t stands where p was put at u
  pub known-put : (u : Ts) (p : Known) (t : Ts) → option_map (or_lost b S t) (get (insert S.known u p) t) ≡ cond (eq_by_cmp ts_cmp t u) (Some (or_lost b S t p)) (known_in b S t)
  known-put u p t = ap (option_map (or_lost b S t)) (get-insert ts_total S.known u p t) ∙ map-cond (or_lost b S t) (eq_by_cmp ts_cmp t u) p (get S.known t)

  put-request : (u : Ts) (p : Known) (t : Ts) → undecided_request (option_map (or_lost b S t) (get (insert S.known u p) t)) ≡ cond (eq_by_cmp ts_cmp t u) (undecided_request (Some (or_lost b S t p))) (undecided_request (known_in b S t))
  put-request u p t = ap undecided_request (known-put u p t) ∙ ap-cond undecided_request (eq_by_cmp ts_cmp t u) (Some (or_lost b S t p)) (known_in b S t)

  pub open-prepared : Placed b S → (q : Request) (t : Ts) → undecided_request (known_in b (put b S (Prepared q)) t) ≡ cond (eq_by_cmp ts_cmp t q.tx) (Some q) (undecided_request (known_in b S t))
  open-prepared h q t =
      let p : Known = record { place = S.length; request = q; fate = Open } in
      put-request q.tx p t
      ∙ ap (λ x. cond (eq_by_cmp ts_cmp t q.tx) (cond (is_open (lapse Open x)) (Some q) None) (undecided_request (known_in b S t))) (not_lost b S t h.began)

  pub open-one : (q : Request) (t : Ts) → undecided_request (known_in b (put b S (One q)) t) ≡ cond (eq_by_cmp ts_cmp t q.tx) None (undecided_request (known_in b S t))
  open-one q t = put-request q.tx (record { place = S.length; request = q; fate = Committed S.length }) t

  pub open-upgraded : (q : Request) (t : Ts) → undecided_request (known_in b (put b S (Upgraded q)) t) ≡ cond (eq_by_cmp ts_cmp t q.tx) None (undecided_request (known_in b S t))
  open-upgraded q t = put-request q.tx (record { place = S.length; request = q; fate = Committed S.length }) t

  -- a transaction that is undecided, with its request
  pub undecided-some : (o : Option Known) (q : Request) → undecided_request o ≡ Some q → (p : Known) × (o ≡ Some p) × (p.fate ≡ Open) × (p.request ≡ q)
  undecided-some None q e = cc
  undecided-some (Some p) q e = by p.fate refl e
    where
      by : (f : Fate) → p.fate ≡ f → cond (is_open f) (Some p.request) None ≡ Some q → (w : Known) × (Some p ≡ Some w) × (w.fate ≡ Open) × (w.request ≡ q)
      by Open f h = (p, refl, f, cc)
      by (Committed at) f h = cc
      by Aborted f h = cc

  pub open-settled : (u : Ts) (c : Bool) (p : Known) → known_in b S u ≡ Some p → p.fate ≡ Open → (t : Ts)
      → undecided_request (known_in b (settle S u c (known_in b S u)) t) ≡ cond (eq_by_cmp ts_cmp t u) None (undecided_request (known_in b S t))
  open-settled u c p is at_first t =
      subst (λ o. undecided_request (known_in b (settle S u c o) t) ≡ cond (eq_by_cmp ts_cmp t u) None (undecided_request (known_in b S t))) (sym is)
      (subst (λ f. undecided_request (known_in b (settle_by S u c p f) t) ≡ cond (eq_by_cmp ts_cmp t u) None (undecided_request (known_in b S t))) (sym at_first) (by c))
    where
      by : (d : Bool) → undecided_request (known_in b (settle_by S u d p Open) t) ≡ cond (eq_by_cmp ts_cmp t u) None (undecided_request (known_in b S t))
      by true = put-request u (record { place = p.place; request = p.request; fate = Committed S.length }) t
      by false = put-request u (record p { fate = Aborted }) t

  pub open-life : Placed b S → (n : ℕ) (t : Ts) → undecided_request (known_in b (put b S (Life n)) t) ≡ cond (nat_eq t.repo b.repo) None (undecided_request (known_in b S t))
  open-life h n t = by (get S.known t) refl
    where
      lapsed : (p : Known) (f : Fate) (x y : Bool) → cond (is_open (lapse f (x && true))) (Some p.request) None ≡ cond x None (cond (is_open (lapse f (x && y))) (Some p.request) None)
      lapsed p Open true y = refl
      lapsed p (Committed at) true y = refl
      lapsed p Aborted true y = refl
      lapsed p f false y = refl

      none : (x : Bool) → ◌≡◌ {A = Option Request} None (cond x None None)
      none true = refl
      none false = refl

      by : (k : Option Known) → get S.known t ≡ k → undecided_request (option_map (or_lost b (put b S (Life n)) t) k) ≡ cond (nat_eq t.repo b.repo) None (undecided_request (option_map (or_lost b S t) k))
      by None e = none (nat_eq t.repo b.repo)
      by (Some p) e =
          let below : p.place < S.length = (h.fits t (or_lost b S t p) (ap (option_map (or_lost b S t)) e)).below in
          ap (λ x. cond (is_open (lapse p.fate (nat_eq t.repo b.repo && x))) (Some p.request) None) (lt-ltb p.place S.length below)
          ∙ lapsed p p.fate (nat_eq t.repo b.repo) (nat_lt p.place S.last_life)
