-- What a repository answers about transactions, and who draws timestamps.
use Rattle.log_entries.specs.declared.entry.Entry.TheVariants.{Decided, Finished, Life, One, Prepared, Upgraded}
use Rattle.log_entries.specs.declared.entry.Entry.{Entry}
use Rattle.log_entries.specs.declared.request.Request.{Request}
use Rattle.spec_history.proofs.Growth.{by_growth, sound-end, state-end}
use Rattle.spec_history.proofs.LastWrite.{commit_here}
use Rattle.spec_history.proofs.Listed.{end_cases, is_some_and, some_and}
use Rattle.spec_history.proofs.Making.{make}
use Rattle.spec_history.proofs.Places.{placed, stays}
use Rattle.spec_history.proofs.Steps.{by_settling}
use Rattle.spec_history.proofs.Telling.{settled-new}
use Rattle.spec_history.specs.History.{Aborted, Base, Committed, Fate, IsCommitted, Open, State, commit_of, is_undecided, known_by, known_in, put, settle, state}
use Rattle.spec_history.specs.Laws.{FateStays, Stays}
use Rattle.spec_history.specs.Outcomes.{SettledAt}
use Rattle.spec_history.specs.Sound.{owes, sound}
use Rattle.spec_trace.specs.Calls.{Settled, Undecided, is_kept, is_last_alone}
use Rattle.spec_trace.specs.Sessions.{AnswersAgree}
use Rattle.spec_trace.specs.Trace.{Item, entries}
use Rattle.std.proofs.Common.{Bool, List, [], ap, arith, cond, eq-eqb, false, get_or, inl, inr, length, refl, subst, suc, sym, true, zero, ℕ, ◌++◌, ◌<◌, ◌≡◌, ◌∙◌, ◌∷◌}
use Rattle.std.proofs.lemmas.Bool.{eqb-true, and_from, and_parts, or_cases, or_left, or_parts, or_right}
use Rattle.std.proofs.lemmas.Cmp.{tied_itself}
use Rattle.std.proofs.lemmas.List.Elements.{All-head, All-tail, All-weaker}
use Rattle.std.proofs.lemmas.Map.Views.{All-values-insert_entry, tells_apart}
use Rattle.std.specs.List.{All, list_any}
use Rattle.std.specs.Option.{IsSome, IsSomeAnd}
use Rattle.std.specs.Ordering.{is_eq, nat_cmp}
use Rattle.std.specs.Prelude.{IsTrue, Some, nat_eq, ◌&&◌, ◌||◌, ◌⊎◌}
use Rattle.thor_value.proofs.NameOrders.{ts_exact, ts_total}
use Rattle.thor_value.specs.FiniteMap.{Map, get, has, values}
use Rattle.thor_value.specs.Names.{same_ts}
use Rattle.thor_value.specs.declared.names.Ts.{Ts}

committed-stays : (f g : Fate) → IsCommitted f → FateStays f g → IsCommitted g
committed-stays Open g c s = absurd c
committed-stays (Committed a) Open c s = absurd s
committed-stays (Committed a) (Committed at) c s = tt
committed-stays (Committed a) Aborted c s = absurd s
committed-stays Aborted g c s = absurd c

settled-committed : (m : ℕ) (f : Fate) → SettledAt m true f → IsCommitted f
settled-committed m f e = subst IsCommitted (sym e) tt

-- one of the list is t, where t is found among them
found : (P : Ts → Type 0) (t : Ts) (us : List Ts) → All P us → list_any (same_ts t) us ≡ true → P t
found P t [] a h = cc
found P t (u ∷ us) a h = by (same_ts t u) refl h (found P t us (All-tail P u us a))
  where
    by : (x : Bool) → same_ts t u ≡ x → (x || list_any (same_ts t) us) ≡ true → (list_any (same_ts t) us ≡ true → P t) → P t
    by true e k rest = subst P (sym (tells_apart ts_exact t u e)) (All-head P u us a)
    by false e k rest = rest k

-- each of some is among them
each-itself : (us : List Ts) → All (λ u. IsTrue (list_any (same_ts u) us)) us
each-itself us = λ i d l. at us i d l
  where
    at : (vs : List Ts) (i : ℕ) (d : Ts) → i < length vs → list_any (same_ts (get_or vs i d)) vs ≡ true
    at [] i d l = absurd (omega arith)
    at (v ∷ vs) zero d l = or_left (same_ts v v) (list_any (same_ts v) vs) (ap is_eq (tied_itself ts_total v))
    at (v ∷ vs) (suc i) d l = or_right (same_ts (get_or vs i d) v) (list_any (same_ts (get_or vs i d)) vs) (at vs i d (omega arith))

module _ (b : Base) where
  HasCommittedHere : List Entry → Ts → Type 0
  HasCommittedHere H t = IsSomeAnd (known_by b H t) (λ o. IsCommitted o.fate)

  on : (H : List Entry) (e : Entry) (t : Ts) → sound b (H ++ e ∷ []) → HasCommittedHere H t → HasCommittedHere (H ++ e ∷ []) t
  unfolding HasCommittedHere
  on H e t sd h =
      let y = some_and (known_by b H t) (λ o. IsCommitted o.fate) h in
      let z = stays b H (e ∷ []) sd t y.0 y.1 in
      let st : Stays y.0 z.0 = z.2 in
      is_some_and (known_by b (H ++ e ∷ []) t) (λ o. IsCommitted o.fate) z.0 z.1 (committed-stays y.0.fate z.0.fate y.2 st.fate)

  -- a kept decision's transaction committed
  kept-committed : (H : List Entry) → sound b H → (t : Ts) → IsSome (get (state b H).kept t) → HasCommittedHere H t
  unfolding HasCommittedHere
  kept-committed = by_growth b (λ H. (t : Ts) → IsSome (get (state b H).kept t) → HasCommittedHere H t) (λ t h. let no : false ≡ true = h in cc)
      (λ H e sd ih ow t h.
      let sd' = sound-end b H e sd ow in
      let k = ((make b (H ++ e ∷ []) sd').kept t).0 h in
      elim (end_cases H e (Decided t true) k.0 k.1) [
        | inl old ↦ on H e t sd' (ih t (((make b H sd).kept t).1 (k.0, old.1)))
        | inr new ↦ decided H e t sd ow (sym new.1)
      ])
    where
      decided : (H : List Entry) (e : Entry) (t : Ts) → sound b H → owes b (state b H) e → e ≡ Decided t true → IsSomeAnd (known_by b (H ++ e ∷ []) t) (λ o. IsCommitted o.fate)
      decided H e t sd ow is =
          let o : owes b (state b H) (Decided t true) = subst (owes b (state b H)) is ow in
          let n = some_and (known_in b (put b (state b H) (Decided t true)) t) (λ w. (w.place < (state b H).length) × SettledAt (state b H).length true w.fate) (settled-new b (state b H) t true (placed b H sd) o.0) in
          let there : known_by b (H ++ e ∷ []) t ≡ Some n.0 = ap (λ (S : State). known_in b S t) (state-end b H e) ∙ ap (λ d. known_in b (put b (state b H) d) t) is ∙ n.1 in
          is_some_and (known_by b (H ++ e ∷ []) t) (λ w. IsCommitted w.fate) n.0 there (settled-committed (state b H).length n.0.fate n.2.1)

  -- a last single commit committed here, or is the base's
  IsAloneHere : List Entry → Ts → Type 0
  IsAloneHere H t = HasCommittedHere H t ⊎ IsTrue (list_any (same_ts t) (values b.alone))

  alone-settle : (S : State) (t : Ts) (c : Bool) → (settle S t c (known_in b S t)).alone ≡ S.alone
  alone-settle S t c = by_settling b (λ T. T.alone ≡ S.alone) S t c (known_in b S t) refl (λ p is o k. refl) (λ p is o. refl)

  all-on : (H : List Entry) (e : Entry) → sound b H → owes b (state b H) e → All (IsAloneHere H) (values (state b H).alone) → All (IsAloneHere (H ++ e ∷ [])) (values (put b (state b H) e).alone)
  unfolding IsAloneHere HasCommittedHere
  all-on H e sd ow a = by e refl
    where
      sd' : sound b (H ++ e ∷ [])
      sd' = sound-end b H e sd ow

      old : All (IsAloneHere (H ++ e ∷ [])) (values (state b H).alone)
      old = All-weaker (IsAloneHere H) (IsAloneHere (H ++ e ∷ [])) (λ t h. elim h [ inl c ↦ inl (on H e t sd' c) | inr k ↦ inr k ]) (values (state b H).alone) a

      new : (q : Request) → commit_of b (state b H) e ≡ ((state b H).length, q) ∷ [] → IsAloneHere (H ++ e ∷ []) q.tx
      new q is =
          let h = commit_here b (state b H) e q (placed b H sd) is in
          let there : known_by b (H ++ e ∷ []) q.tx ≡ Some h.0 = ap (λ (S : State). known_in b S q.tx) (state-end b H e) ∙ h.1 in
          inl (is_some_and (known_by b (H ++ e ∷ []) q.tx) (λ o. IsCommitted o.fate) h.0 there (subst IsCommitted (sym h.3) tt))

      by : (d : Entry) → e ≡ d → All (IsAloneHere (H ++ e ∷ [])) (values (put b (state b H) d).alone)
      by (Life n) is = old
      by (One q) is = All-values-insert_entry nat_cmp q.who.client q.tx (IsAloneHere (H ++ e ∷ [])) (state b H).alone.pairs old (new q (ap (commit_of b (state b H)) is))
      by (Prepared q) is = old
      by (Decided t c) is = subst (λ (m : Map nat_cmp Ts). All (IsAloneHere (H ++ e ∷ [])) (values m)) (sym (alone-settle (state b H) t c)) old
      by (Finished t c) is = subst (λ (m : Map nat_cmp Ts). All (IsAloneHere (H ++ e ∷ [])) (values m)) (sym (alone-settle (state b H) t c)) old
      by (Upgraded q) is = All-values-insert_entry nat_cmp q.who.client q.tx (IsAloneHere (H ++ e ∷ [])) (state b H).alone.pairs old (new q (ap (commit_of b (state b H)) is))

  all-alone : (H : List Entry) → sound b H → All (IsAloneHere H) (values (state b H).alone)
  unfolding IsAloneHere HasCommittedHere
  all-alone = by_growth b (λ H. All (IsAloneHere H) (values (state b H).alone))
      (All-weaker (λ u. IsTrue (list_any (same_ts u) (values b.alone))) (IsAloneHere []) (λ t h. inr h) (values b.alone) (each-itself (values b.alone)))
      (λ H e sd ih ow. subst (λ (S : State). All (IsAloneHere (H ++ e ∷ [])) (values S.alone)) (sym (state-end b H e)) (all-on H e sd ow ih))

  -- ---- the answer

  answer : (x y : Bool) (c : Bool) → cond x Undecided (Settled y) ≡ Settled c → y ≡ c
  answer true y c e = cc
  answer false y c e = cc

  waits : (x y : Bool) → cond x Undecided (Settled y) ≡ Undecided → x ≡ true
  waits true y e = refl
  waits false y e = cc

  pub agree : (T : List Item) (t : Ts) → sound b (entries T) → AnswersAgree b T t
  unfolding IsAloneHere HasCommittedHere
  agree T t sd = record {
    undecided = (
      (λ e. let k = and_parts (is_undecided (known_by b (entries T) t)) (nat_eq t.repo b.repo) (waits _ _ e) in (k.0, eqb-true t.repo b.repo k.1)),
      (λ h. ap (λ x. cond x Undecided (Settled (is_kept b T t || is_last_alone b T t))) (and_from (is_undecided (known_by b (entries T) t)) (nat_eq t.repo b.repo) h.0 (eq-eqb t.repo b.repo h.1))),
    );
    committed = λ e. elim (or_cases (is_kept b T t) (is_last_alone b T t) (answer _ _ true e)) [
      | inl kept ↦ inl (kept-committed (entries T) sd t (and_parts (has (state b (entries T)).kept t) _ kept).0)
      | inr alone ↦ found (IsAloneHere (entries T)) t (values (state b (entries T)).alone) (all-alone (entries T) sd) alone
    ];
    aborted = λ e. (or_parts (is_kept b T t) (is_last_alone b T t) (answer _ _ false e)).0;
  }
