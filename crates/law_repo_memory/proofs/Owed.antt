-- What holds of a recorded history holds behind one more entry.
use Rattle.log_entries.specs.declared.entry.Entry.TheVariants.{Decided, Finished, Life, One, Prepared, Upgraded}
use Rattle.log_entries.specs.declared.entry.Entry.{Entry}
use Rattle.spec_history.proofs.Growth.{sound-end, state-end}
use Rattle.spec_history.proofs.Steps.{by_settling}
use Rattle.spec_history.specs.History.{Base, State, is_undecided, known_in, put, settle}
use Rattle.spec_history.specs.Sound.{owes}
use Rattle.law_repo_memory.proofs.Traced.{forgotten-same}
use Rattle.law_repo_memory.specs.Agreeing.{IsOwed, state_of, trace_of}
use Rattle.spec_trace.proofs.Traces.{items-entry, trace-end}
use Rattle.spec_trace.specs.Calls.{is_forgotten}
use Rattle.spec_trace.specs.Trace.{E, Item}
use Rattle.std.proofs.Common.{Bool, List, [], ap, cond, refl, sym, ◌++◌, ◌≡◌, ◌∙◌, ◌∷◌}
use Rattle.std.specs.Prelude.{None, Option, Some, false, is_some, not, true, ◌&&◌}
use Rattle.std.specs.Ordering.{eq_by_cmp}
use Rattle.thor_value.proofs.FiniteMap.{get-insert, get-keep}
use Rattle.thor_value.proofs.NameOrders.{ts_exact, ts_total}
use Rattle.thor_value.specs.FiniteMap.{Set, add, get, has}
use Rattle.thor_value.specs.Names.{same_ts, ts_cmp}
use Rattle.thor_value.specs.declared.names.Ts.{Ts}
use Rattle.repo_trace.specs.Recorded.{Recorded, with_entry}

-- ---- what no entry adds, and what none takes away

cond_none : {A : Type 0} (x : Bool) → ◌≡◌ {A = Option A} (cond x None None) None
cond_none true = refl
cond_none false = refl

module _ (b : Base) (S : State) where
  left-settle : (t u : Ts) (c : Bool) → get (settle S u c (known_in b S u)).left t ≡ get S.left t
  left-settle t u c = by_settling b (λ Z. get Z.left t ≡ get S.left t) S u c (known_in b S u) refl (λ p is o k. refl) (λ p is o. refl)

  none-left : (e : Entry) (t : Ts) → get S.left t ≡ None → get (put b S e).left t ≡ None
  none-left (Life n) t h = h
  none-left (One q) t h = h
  none-left (Prepared q) t h = h
  none-left (Upgraded q) t h = h
  none-left (Decided u c) t h = left-settle t u c ∙ h
  none-left (Finished u c) t h =
      get-keep ts_cmp ts_exact S.left (λ v. not (same_ts v u)) t ∙ (ap (λ o. cond (not (same_ts t u)) o None) h ∙ cond_none (not (same_ts t u)))

  one_more : (m : Set ts_cmp) (u t : Ts) (x : Bool) → has m t ≡ true → has (cond x (add m u) m) t ≡ true
  one_more m u t true h = ap is_some (get-insert ts_total m u tt t) ∙ by (eq_by_cmp ts_cmp t u)
    where
      by : (y : Bool) → is_some (cond y (Some tt) (get m t)) ≡ true
      by true = refl
      by false = h
  one_more m u t false h = h

  kept-settle : (u : Ts) (c : Bool) → (settle S u c (known_in b S u)).kept ≡ S.kept
  kept-settle u c = by_settling b (λ Z. Z.kept ≡ S.kept) S u c (known_in b S u) refl (λ p is o k. refl) (λ p is o. refl)

  still-kept : (e : Entry) (t : Ts) → has S.kept t ≡ true → has (put b S e).kept t ≡ true
  still-kept (Life n) t h = h
  still-kept (One q) t h = h
  still-kept (Prepared q) t h = h
  still-kept (Upgraded q) t h = h
  still-kept (Decided u c) t h = one_more S.kept u t (c && is_undecided (known_in b S u)) h
  still-kept (Finished u c) t h = ap (λ (m : Set ts_cmp). has m t) (kept-settle u c) ∙ h

-- ---- one more entry

module _ (b : Base) (r : Recorded) (o : IsOwed b r) (e : Entry) (ow : owes b (state_of b r) e) where
  pub trace-behind : trace_of (with_entry r e) ≡ trace_of r ++ E e ∷ []
  trace-behind = items-entry r.history r.marks e o.trace

  pub state-behind : state_of b (with_entry r e) ≡ put b (state_of b r) e
  state-behind = state-end b r.history e

  pub forgotten-behind : (t : Ts) → is_forgotten (trace_of (with_entry r e)) t ≡ is_forgotten (trace_of r) t
  forgotten-behind t = ap (λ (T : List Item). is_forgotten T t) trace-behind ∙ forgotten-same b (trace_of r) (E e) t refl

  pub owed-behind : IsOwed b (with_entry r e)
  owed-behind = record {
    trace = trace-end r.history r.marks e o.trace;
    sound = sound-end b r.history e o.sound ow;
    settled = λ t. ap (λ (S : State). get S.left t) state-behind ∙ none-left b (state_of b r) e t (o.settled t);
    forgotten = λ t h. ap (λ (S : State). has S.kept t) state-behind ∙ still-kept b (state_of b r) e t (o.forgotten t (sym (forgotten-behind t) ∙ h));
  }
