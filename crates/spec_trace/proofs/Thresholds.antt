-- The window's threshold is that of a transaction which committed, or the base's.
use Rattle.log_entries.specs.declared.entry.Entry.TheVariants.{Decided, Finished, Life, One, Prepared, Upgraded}
use Rattle.log_entries.specs.declared.entry.Entry.{Entry}
use Rattle.log_entries.specs.declared.request.Request.{Request}
use Rattle.spec_history.proofs.Commits.{made}
use Rattle.repo_refusals.proofs.Covered.{found_first, held, window-end}
use Rattle.spec_history.proofs.Growth.{by_growth, sound-end, state-end}
use Rattle.spec_history.proofs.LastWrite.{commit_here, commit_shape}
use Rattle.spec_history.proofs.Listed.{is_some_and, some_and}
use Rattle.spec_history.proofs.Places.{placed, stays}
use Rattle.repo_refusals.specs.Covers.{MemberFits}
use Rattle.spec_trace.specs.Epochs.{IsOfCommit, ThresholdsCommit}
use Rattle.spec_history.specs.History.{Aborted, Base, Committed, Fate, IsCommitted, Open, Known, State, commit_by, commit_of, is_open, known_in, known_by, state}
use Rattle.spec_history.specs.Laws.{FateStays, Stays, with_stamps}
use Rattle.spec_history.specs.Requests.{is_upgrade}
use Rattle.spec_history.specs.Sound.{sound}
use Rattle.repo_refusals.specs.Window.{Window, cleared, close, close_by, first_decided, slide, window, with_room, without}
use Rattle.std.proofs.Common.{Bool, List, [], ap, cond, false, inl, inr, refl, subst, sym, true, ◌++◌, ◌≡◌, ◌∙◌, ◌∷◌}
use Rattle.std.proofs.lemmas.Cmp.{eq_by_cmp_equiv}
use Rattle.std.proofs.lemmas.Map.Keys.{IsDistinct-from_sorted}
use Rattle.std.proofs.lemmas.Map.Views.{lookup-from_Contains}
use Rattle.std.specs.Map.{keys_of}
use Rattle.std.specs.Ordering.{match_ordering}
use Rattle.std.specs.Prelude.{None, Option, Some, nat_le, ◌&&◌}
use Rattle.std.specs.declared.cmp.Ordering.TheVariants.{Equal, Greater, Less}
use Rattle.std.specs.declared.cmp.Ordering.{Ordering}
use Rattle.thor_value.proofs.NameOrders.{ts_total}
use Rattle.thor_value.specs.FiniteMap.{get, insert, len}
use Rattle.thor_value.specs.Names.{later_of, ts_cmp}
use Rattle.thor_value.specs.declared.names.Ts.{Ts}
use Rattle.validation_queue.specs.Contents.{room_for}

committed_stays : (f g : Fate) → IsCommitted f → FateStays f g → IsCommitted g
committed_stays Open g c s = absurd c
committed_stays (Committed a) Open c s = absurd s
committed_stays (Committed a) (Committed at) c s = tt
committed_stays (Committed a) Aborted c s = absurd s
committed_stays Aborted g c s = absurd c

-- the later of two is one of them
later_is : (P : Ts → Type 0) (t u : Ts) → P t → P u → P (later_of t u)
later_is P t u p q = by (ts_cmp t u)
  where
    by : (o : Ordering) → P (match_ordering o u u t)
    by Less = q
    by Equal = q
    by Greater = p

module _ (b : Base) where
  -- what committed stays so
  still : (H : List Entry) (e : Entry) → sound b (H ++ e ∷ []) → (t : Ts) → IsOfCommit b H t → IsOfCommit b (H ++ e ∷ []) t
  still H e sd t (inl base) = inl base
  still H e sd t (inr h) =
      let y = some_and (known_by b H t) (λ o. IsCommitted o.fate) h in
      let z = stays b H (e ∷ []) sd t y.0 y.1 in
      let st : Stays y.0 z.0 = z.2 in
      inr (is_some_and (known_by b (H ++ e ∷ []) t) (λ o. IsCommitted o.fate) z.0 z.1 (committed_stays y.0.fate z.0.fate y.2 st.fate))

  -- a transaction that the entry commits
  new : (H : List Entry) (e : Entry) (q : Request) → sound b H → commit_of b (state b H) e ≡ ((state b H).length, q) ∷ [] → IsOfCommit b (H ++ e ∷ []) q.tx
  new H e q sd is =
      let h = commit_here b (state b H) e q (placed b H sd) is in
      let there : known_by b (H ++ e ∷ []) q.tx ≡ Some h.0 = subst (λ (S : State). known_in b S q.tx ≡ Some h.0) (sym (state-end b H e)) h.1 in
      inr (is_some_and (known_by b (H ++ e ∷ []) q.tx) (λ o. IsCommitted o.fate) h.0 there (subst IsCommitted (sym h.3) tt))

  top-step : (H : List Entry) (e : Entry) → sound b H → sound b (H ++ e ∷ []) → IsOfCommit b H (state b H).top → IsOfCommit b (H ++ e ∷ []) (state b (H ++ e ∷ [])).top
  top-step H e sd sd' ih =
      subst (λ (S : State). IsOfCommit b (H ++ e ∷ []) S.top) (sym (state-end b H e))
      (subst (IsOfCommit b (H ++ e ∷ [])) (sym (made b (state b H) e).2) (elim (commit_shape b (state b H) e) [
        | inl none ↦ subst (λ cs. IsOfCommit b (H ++ e ∷ []) (with_stamps (state b H).top cs)) (sym none) (still H e sd' (state b H).top ih)
        | inr one ↦ subst (λ cs. IsOfCommit b (H ++ e ∷ []) (with_stamps (state b H).top cs)) (sym one.1) (later_is (IsOfCommit b (H ++ e ∷ [])) (state b H).top one.0.tx (still H e sd' (state b H).top ih) (new H e one.0 sd one.1))
      ]))

  top : (H : List Entry) → sound b H → IsOfCommit b H (state b H).top
  top = by_growth b (λ H. IsOfCommit b H (state b H).top) (inl refl) (λ H e sd ih ow. top-step H e sd (sound-end b H e sd ow) ih)

  -- ---- the window

  decided_committed : (d : Bool) (f : Fate) → d ≡ true → MemberFits d f → IsCommitted f
  decided_committed true Open e a = absurd a
  decided_committed true (Committed at) e a = tt
  decided_committed true Aborted e a = absurd a
  decided_committed false f e a = cc

  -- a member that may leave has committed
  leaves : (H : List Entry) → sound b H → (u : Ts) → first_decided (window b H).members.pairs ≡ Some u → IsOfCommit b H u
  leaves H sd u e =
      let W : Window = window b H in
      let h = held b H sd in
      let f = found_first W.members.pairs u e in
      let here : get W.members u ≡ Some f.0 = lookup-from_Contains (eq_by_cmp_equiv ts_total) u f.0 W.members.pairs (IsDistinct-from_sorted ts_cmp (keys_of W.members.pairs) h.sorted) f.1 in
      let s = h.members u f.0 here in
      inr (is_some_and (known_by b H u) (λ o. IsCommitted o.fate) s.0 s.1 (decided_committed f.0.decided s.0.fate f.2 s.3))

  roomed : (H : List Entry) → sound b H → IsOfCommit b H (window b H).threshold → IsOfCommit b H (with_room (window b H)).threshold
  roomed H sd ih = by (nat_le room_for (len (window b H).members))
    where
      first : (o : Option Ts) → first_decided (window b H).members.pairs ≡ o → IsOfCommit b H (without (window b H) o).threshold
      first None e = ih
      first (Some u) e = later_is (IsOfCommit b H) (window b H).threshold u ih (leaves H sd u e)

      by : (x : Bool) → IsOfCommit b H (without (window b H) (cond x (first_decided (window b H).members.pairs) None)).threshold
      by true = first (first_decided (window b H).members.pairs) refl
      by false = ih

  -- what an entry settles
  closed : (H : List Entry) (e : Entry) (t : Ts) (c : Bool) (o : Known) → sound b H → sound b (H ++ e ∷ []) → known_by b H t ≡ Some o
      → commit_of b (state b H) e ≡ commit_by (state b H) c (Some o) → IsOfCommit b H (window b H).threshold
      → IsOfCommit b (H ++ e ∷ []) (close_by (window b H) t c o o.fate).threshold
  closed H e t c o sd sd' is commit ih = by o.fate refl c refl
    where
      old : IsOfCommit b (H ++ e ∷ []) (window b H).threshold
      old = still H e sd' (window b H).threshold ih

      named : o.request.tx ≡ t
      named = ((placed b H sd).fits t o is).named

      decided : (x : Bool) → IsOfCommit b (H ++ e ∷ []) t → IsOfCommit b (H ++ e ∷ []) (cond x (cleared t) (record { threshold = (window b H).threshold; members = insert (window b H).members t (record { decided = true; request = o.request }) })).threshold
      decided true k = k
      decided false k = old

      by : (f : Fate) → o.fate ≡ f → (d : Bool) → c ≡ d → IsOfCommit b (H ++ e ∷ []) (close_by (window b H) t d o f).threshold
      by Open k true m =
          decided (is_upgrade o.request) (subst (IsOfCommit b (H ++ e ∷ [])) named (new H e o.request sd
          (commit ∙ ap (λ x. commit_by (state b H) x (Some o)) m ∙ ap (λ f. cond (true && is_open f) (((state b H).length, o.request) ∷ []) []) k)))
      by Open k false m = old
      by (Committed at) k d m = old
      by Aborted k d m = old

  close_step : (H : List Entry) (e : Entry) (t : Ts) (c : Bool) → sound b H → sound b (H ++ e ∷ []) → IsOfCommit b H (window b H).threshold
      → (o : Option Known) → known_by b H t ≡ o → commit_of b (state b H) e ≡ commit_by (state b H) c o
      → IsOfCommit b (H ++ e ∷ []) (close (window b H) t c o).threshold
  close_step H e t c sd sd' ih None is commit = still H e sd' (window b H).threshold ih
  close_step H e t c sd sd' ih (Some o) is commit = closed H e t c o sd sd' is commit ih

  slides : (H : List Entry) (e : Entry) → sound b H → sound b (H ++ e ∷ []) → IsOfCommit b H (window b H).threshold → IsOfCommit b (H ++ e ∷ []) (slide b (state b H) (window b H) e).threshold
  slides H (Life n) sd sd' ih = still H (Life n) sd' (state b H).top (top H sd)
  slides H (One q) sd sd' ih = still H (One q) sd' (with_room (window b H)).threshold (roomed H sd ih)
  slides H (Prepared q) sd sd' ih = still H (Prepared q) sd' (with_room (window b H)).threshold (roomed H sd ih)
  slides H (Decided t c) sd sd' ih = close_step H (Decided t c) t c sd sd' ih (known_by b H t) refl refl
  slides H (Finished t c) sd sd' ih = close_step H (Finished t c) t c sd sd' ih (known_by b H t) refl refl
  slides H (Upgraded q) sd sd' ih = new H (Upgraded q) q sd refl

  threshold : (H : List Entry) → sound b H → IsOfCommit b H (window b H).threshold
  threshold = by_growth b (λ H. IsOfCommit b H (window b H).threshold) (inl refl)
      (λ H e sd ih ow. subst (λ (W : Window). IsOfCommit b (H ++ e ∷ []) W.threshold) (sym (window-end b H e)) (slides H e sd (sound-end b H e sd ow) ih))

  pub thresholds : (H : List Entry) → sound b H → ThresholdsCommit b H
  thresholds H sd = record { threshold = threshold H sd; top = top H sd }
