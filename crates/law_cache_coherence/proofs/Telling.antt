-- What is known of outcomes over several repositories.
use Rattle.law_atomic_commit.proofs.Parts.{committed-from, part_lives, has-committed}
use Rattle.law_atomic_commit.specs.Several.{IsAtomic, Several, committed}
use Rattle.law_cache_coherence.proofs.Passing.{behind, same_client}
use Rattle.law_cache_coherence.specs.Fitting.{Agrees}
use Rattle.log_entries.specs.declared.entry.Entry.TheVariants.{Decided, Finished, Life, One, Prepared, Upgraded}
use Rattle.log_entries.specs.declared.entry.Entry.{Entry}
use Rattle.log_entries.specs.declared.request.Request.{Request}
use Rattle.spec_history.proofs.Growth.{by_growth, state-end}
use Rattle.spec_history.proofs.Steps.{by_settling}
use Rattle.spec_history.specs.History.{Base, Known, LeftOver, State, commit_by, is_open, known_in, put, settle, state}
use Rattle.spec_history.specs.Sound.{sound}
use Rattle.spec_trace.proofs.Exactness.{known}
use Rattle.spec_trace.proofs.Sessions.{session-end}
use Rattle.spec_trace.specs.Calls.{last_session}
use Rattle.spec_trace.specs.Exact.{ItemIsExact}
use Rattle.spec_trace.specs.Gaps.{client_in}
use Rattle.spec_trace.specs.Session.{Session, meet, move, session}
use Rattle.spec_trace.specs.Trace.{E, Item, M, entries}
use Rattle.spec_trace.specs.declared.mark.Mark.TheVariants as the
use Rattle.std.proofs.Common.{Bool, List, [], ap, arith, cond, false, refl, subst, sym, true, ◌++◌, ◌<◌, ◌∙◌, ◌∷◌, ◌≡◌, ℕ}
use Rattle.std.proofs.lemmas.Bool.{eqb-true}
use Rattle.std.specs.Option.{IsSomeAnd, option_map}
use Rattle.std.specs.Prelude.{None, Option, Some, nat_eq, not, ◌&&◌}
use Rattle.thor_value.proofs.FiniteMap.{get-keep}
use Rattle.thor_value.proofs.NameOrders.{ts_exact}
use Rattle.thor_value.specs.FiniteMap.{get}
use Rattle.thor_value.specs.Names.{same_ts, ts_cmp}
use Rattle.thor_value.specs.declared.names.Ts.{Ts}

pub agrees : (S : Several) → IsAtomic S → (r s : ℕ) → Agrees (S.base r) (S.history r) s (committed S)
agrees S a r s = record {
  kept = λ t o is c. let w = has-committed S t c in part_lives S a r t w.0 o w.1 is;
  led = λ t o is own done.
      let w = a.known r t o is in
      committed-from S t w.0 (record { there = w.1; commits = a.agreed r t o w.0 is done w.1 });
}

module _ (c : ℕ) (b : Base) where
  -- ---- the client of a session stays

  pub unbegun : (T : List Item) (s : ℕ) (v : Session) (i : Item) → session b T s ≡ Some v → ItemIsExact b T i → session b (T ++ i ∷ []) s ≡ Some (move b s (state b (entries T)) i v)
  unbegun T s v (M (the.Connected n d)) h k = behind b T (M (the.Connected n d)) s v h (by (nat_eq n s) refl)
    where
      by : (t : Bool) → nat_eq n s ≡ t → nat_eq n s ≡ false
      by false e = e
      by true e = let low = known b T s v h in let same = eqb-true n s e in let up : last_session T < n = k.0 in absurd (omega arith)
  unbegun T s v (M (the.Took n place)) h k = session-end b T (M (the.Took n place)) s ∙ ap (λ (u : Option Session). meet b s (state b (entries T)) u (M (the.Took n place))) h
  unbegun T s v (E e) h k = behind b T (E e) s v h refl
  unbegun T s v (M (the.Fetched n page upto)) h k = behind b T (M (the.Fetched n page upto)) s v h refl
  unbegun T s v (M (the.Granted n page)) h k = behind b T (M (the.Granted n page)) s v h refl
  unbegun T s v (M (the.Drew n t)) h k = behind b T (M (the.Drew n t)) s v h refl
  unbegun T s v (M (the.Forgot t)) h k = behind b T (M (the.Forgot t)) s v h refl
  unbegun T s v (M (the.Refused n q r)) h k = behind b T (M (the.Refused n q r)) s v h refl

  pub of_client : (o : Option Session) → option_map (λ (v : Session). v.client) o ≡ Some c → (v : Session) × (o ≡ Some v) × (v.client ≡ c)
  of_client None e = cc
  of_client (Some v) e = (v, refl, cc)

  pub client_stays : (T : List Item) (i : Item) (s : ℕ) → ItemIsExact b T i → client_in b T s ≡ Some c → client_in b (T ++ i ∷ []) s ≡ Some c
  client_stays T i s k h =
      let y = of_client (session b T s) h in
      ap (option_map (λ (v : Session). v.client)) (unbegun T s y.0 i y.1 k) ∙ ap (λ (n : ℕ). Some n) (same_client b s (state b (entries T)) i y.0 ∙ y.2)

  -- ---- one entry

  first_of : Request → List (ℕ × Request) → Request
  first_of d [] = d
  first_of d (x ∷ xs) = x.1

  pub one_request : (n m : ℕ) (p q : Request) → ◌≡◌ {A = List (ℕ × Request)} ((n, p) ∷ []) ((m, q) ∷ []) → p ≡ q
  unfolding first_of
  one_request n m p q e = ap (first_of p) e

  pub no_commit : (n : ℕ) (q : Request) → ◌≡◌ {A = List (ℕ × Request)} [] ((n, q) ∷ []) → ⊥
  no_commit n q e = cc

  pub decided_by : (S : State) (k : Bool) (o : Option Known) (n : ℕ) (q : Request) → commit_by S k o ≡ (n, q) ∷ [] → (p : Known) × (o ≡ Some p) × (p.request ≡ q)
  decided_by S k None n q e = cc
  decided_by S k (Some p) n q e = by (k && is_open p.fate) e
    where
      by : (x : Bool) → cond {A = List (ℕ × Request)} x ((S.length, p.request) ∷ []) [] ≡ (n, q) ∷ [] → (z : Known) × (◌≡◌ {A = Option Known} (Some p) (Some z)) × (z.request ≡ q)
      by true f = (p, refl, one_request S.length n p.request q f)
      by false f = cc

  -- what is left to settle, an earlier run has left
  less : (S : State) (t : Ts) (k : Bool) → (settle S t k (known_in b S t)).left ≡ S.left
  less S t k = by_settling b (λ R. R.left ≡ S.left) S t k (known_in b S t) refl (λ p is o z. refl) (λ p is o. refl)

  left_put : (S : State) (e : Entry) (t : Ts) (l : LeftOver) → get (put b S e).left t ≡ Some l → get S.left t ≡ Some l
  left_put S (Life n) t l h = h
  left_put S (One q) t l h = h
  left_put S (Prepared q) t l h = h
  left_put S (Upgraded q) t l h = h
  left_put S (Decided u k) t l h = subst (λ m. get m t ≡ Some l) (less S u k) h
  left_put S (Finished u k) t l h = remains (not (same_ts t u)) (get S.left t) l (sym (get-keep ts_cmp ts_exact S.left (λ v. not (same_ts v u)) t) ∙ h)
    where
      remains : (x : Bool) (o : Option LeftOver) (m : LeftOver) → cond x o None ≡ Some m → o ≡ Some m
      remains true o m e = e
      remains false o m e = cc

  pub left_from : (H : List Entry) → sound b H → (t : Ts) (l : LeftOver) → get (state b H).left t ≡ Some l → get b.left t ≡ Some l
  left_from = by_growth b (λ H. (t : Ts) (l : LeftOver) → get (state b H).left t ≡ Some l → get b.left t ≡ Some l) (λ t l h. h)
      (λ H e sd ih ow t l h. ih t l (left_put (state b H) e t l (subst (λ S. get S.left t ≡ Some l) (state-end b H e) h)))

  pub not_left : (o : Option LeftOver) (P : LeftOver → Type 0) → ((l : LeftOver) → o ≡ Some l → ⊥) → IsSomeAnd o P → ⊥
  not_left None P f h = h
  not_left (Some l) P f h = f l refl
