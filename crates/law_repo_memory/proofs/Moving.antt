-- What is held says what the history says behind an entry, where each part of it does.
use Rattle.log_entries.specs.declared.entry.Entry.{Entry}
use Rattle.repo_state.specs.declared.held.Held.{Held}
use Rattle.spec_history.specs.History.{Base, Known, State, known_in, or_lost, put, state}
use Rattle.spec_history.specs.Sound.{owes}
use Rattle.law_repo_memory.proofs.Owed.{forgotten-behind, owed-behind, state-behind, trace-behind}
use Rattle.law_repo_memory.proofs.Traced.{next-same}
use Rattle.law_repo_memory.specs.Agreeing.{HeldAgrees, IsOwed, state_of, trace_of}
use Rattle.law_repo_memory.specs.Tables.{TableAgrees}
use Rattle.spec_trace.proofs.Traces.{entries-items}
use Rattle.spec_trace.specs.Calls.{is_forgotten, is_kept, next_page}
use Rattle.spec_trace.specs.Trace.{E}
use Rattle.commit_log.specs.Recovered.{page_above}
use Rattle.std.proofs.Common.{Bool, List, [], ap, arith, cond, refl, subst, sym, ℕ, ◌+◌, ◌++◌, ◌<◌, ◌≡◌, ◌≤◌, ◌∙◌, ◌∷◌}
use Rattle.std.proofs.lemmas.List.{length-append}
use Rattle.std.specs.List.{AllByRecursion, fold}
use Rattle.std.specs.Option.{option_map}
use Rattle.std.specs.Ordering.{eq_by_cmp}
use Rattle.std.specs.Prelude.{None, Option, Some, false, is_some, length, max, not, true, ◌&&◌}
use Rattle.thor_value.proofs.FiniteMap.{get-insert}
use Rattle.thor_value.proofs.NameOrders.{ts_exact, ts_total}
use Rattle.std.proofs.lemmas.Map.Views.{tells_apart}
use Rattle.thor_value.specs.FiniteMap.{Map, Set, add, get, has, insert}
use Rattle.thor_value.specs.Names.{ts_cmp}
use Rattle.thor_value.specs.declared.names.Oref.{Oref}
use Rattle.thor_value.specs.declared.names.Ts.{Ts}
use Rattle.thor_value.specs.declared.values.Obj.{Obj}
use Rattle.repo_trace.specs.Recorded.{Recorded, with_entry}
use Rattle.two_phase.specs.Contents.{keeps}

-- What is held behind an entry, part by part, where S is the state behind it.
pub record Parts (b : Base) (r : Recorded) (S : State) (h new : Held) (requested : Set ts_cmp) : Type 0 where
  pub repo : new.repo ≡ h.repo
  pub life : new.life ≡ S.life
  pub count : new.count ≡ h.count + 1
  pub threshold : new.threshold ≡ S.top
  pub upgrades : new.upgrades ≡ S.texts
  pub table : TableAgrees b S new.table
  pub kept : (t : Ts) → b.life < t.life → keeps (get new.table.transactions t) ≡ (has S.kept t && not (is_forgotten (trace_of r) t))
  pub next : new.next_grant ≡ h.next_grant
  pub pages : new.next_page ≤ new.next_grant
  pub came : (t : Ts) → is_some (get S.known t) ≡ true → has requested t ≡ true

-- whether a decision is kept, by the recorded history
pub kept-by : (b : Base) (r : Recorded) → IsOwed b r → (t : Ts) → is_kept b (trace_of r) t ≡ (has (state_of b r).kept t && not (is_forgotten (trace_of r) t))
kept-by b r o t = ap (λ (H : List Entry). has (state b H).kept t && not (is_forgotten (trace_of r) t)) (entries-items r.history r.marks o.trace)

counted : (n k : ℕ) (H : List Entry) (e : Entry) → n ≡ k + length H → n + 1 ≡ k + length (H ++ e ∷ [])
counted n k H e h = let l : length (H ++ e ∷ []) ≡ length H + 1 = length-append H (e ∷ []) in omega arith

pub held-behind : (b : Base) (r : Recorded) (h : Held) (before : Set ts_cmp) (e : Entry) (new : Held) (requested : Set ts_cmp) → HeldAgrees b r h before → owes b (state_of b r) e → Parts b r (put b (state_of b r) e) h new requested → HeldAgrees b (with_entry r e) new requested
held-behind b r h before e new requested a ow p =
    let S : state_of b (with_entry r e) ≡ put b (state_of b r) e = state-behind b r a.owed e ow in
    let o : IsOwed b (with_entry r e) = owed-behind b r a.owed e ow in
    record {
      owed = o;
      repo = p.repo ∙ a.repo;
      life = p.life ∙ sym (ap (λ (Z : State). Z.life) S);
      count = p.count ∙ counted h.count b.count r.history e a.count;
      threshold = p.threshold ∙ sym (ap (λ (Z : State). Z.top) S);
      upgrades = p.upgrades ∙ sym (ap (λ (Z : State). Z.texts) S);
      table = subst (λ (Z : State). TableAgrees b Z new.table) (sym S) p.table;
      kept = λ t l. p.kept t l ∙ (ap (λ x. has (put b (state_of b r) e).kept t && not x) (sym (forgotten-behind b r a.owed e ow t)) ∙ (ap (λ (Z : State). has Z.kept t && not (is_forgotten (trace_of (with_entry r e)) t)) (sym S) ∙ sym (kept-by b (with_entry r e) o t)));
      next = p.next ∙ (a.next ∙ sym (ap (next_page b) (trace-behind b r a.owed e ow) ∙ next-same b (trace_of r) (E e) refl));
      pages = p.pages;
      came = λ t k. p.came t (sym (ap (λ (Z : State). is_some (get Z.known t)) S) ∙ k);
    }

-- ---- pages

pub pages-below : (ws : List (Oref × Obj)) (n m : ℕ) → n ≤ m → AllByRecursion (λ w. w.0.page < m) ws → fold page_above n ws ≤ m
pages-below [] n m h all = h
pages-below (w ∷ ws) n m h all = pages-below ws (page_above n w) m (let k : w.0.page < m = all.0 in omega arith) all.1

pub max-second : (n m : ℕ) → n ≤ m → max m n ≡ m
max-second n m h = omega arith

pub second-at-most-max : (n m : ℕ) → n ≤ max m n
second-at-most-max n m = omega arith

-- ---- transactions that came

some-cond : {A : Type 0} (x : Bool) (v : A) (o : Option A) → is_some (cond x (Some v) o) ≡ cond x true (is_some o)
some-cond true v o = refl
some-cond false v o = refl

-- one more is known where one more has come
pub one-came : (m : Set ts_cmp) (known : Map ts_cmp Known) (u : Ts) (p : Known) → ((t : Ts) → is_some (get known t) ≡ true → has m t ≡ true) → (t : Ts) → is_some (get (insert known u p) t) ≡ true → has (add m u) t ≡ true
one-came m known u p h t k =
    ap is_some (get-insert ts_total m u tt t) ∙ (some-cond (eq_by_cmp ts_cmp t u) tt (get m t)
    ∙ by (eq_by_cmp ts_cmp t u) (sym (ap is_some (get-insert ts_total known u p t) ∙ some-cond (eq_by_cmp ts_cmp t u) p (get known t)) ∙ k))
  where
    by : (x : Bool) → cond x true (is_some (get known t)) ≡ true → cond x true (is_some (get m t)) ≡ true
    by true e = refl
    by false e = h t e

some-mapped : {A B : Type 0} (f : A → B) (o : Option A) → is_some (option_map f o) ≡ is_some o
some-mapped f None = refl
some-mapped f (Some x) = refl

pub known-there : (b : Base) (S : State) (u : Ts) (o : Known) → known_in b S u ≡ Some o → is_some (get S.known u) ≡ true
known-there b S u o is = sym (some-mapped (or_lost b S u) (get S.known u)) ∙ ap is_some is

-- none is more where one that was known is settled
pub none-came : (b : Base) (S : State) (u : Ts) (o p : Known) → known_in b S u ≡ Some o → (t : Ts) → is_some (get S.known t) ≡ is_some (get (insert S.known u p) t)
none-came b S u o p is t = sym (ap is_some (get-insert ts_total S.known u p t) ∙ (some-cond (eq_by_cmp ts_cmp t u) p (get S.known t) ∙ by (eq_by_cmp ts_cmp t u) refl))
  where
    by : (x : Bool) → eq_by_cmp ts_cmp t u ≡ x → cond x true (is_some (get S.known t)) ≡ is_some (get S.known t)
    by true e = sym (subst (λ v. is_some (get S.known v) ≡ true) (sym (tells_apart ts_exact t u e)) (known-there b S u o is))
    by false e = refl
