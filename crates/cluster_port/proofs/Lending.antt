-- The repositories of a run are a port.
use Rattle.client_port.specs.Growing.{Called, Grew}
use Rattle.client_port.specs.Views.{Calm, Halted, MayCome, Opened, Unsettled, View}
use Rattle.client_port.specs.Works.{Answered, Does, IsDown}
use Rattle.cluster_port.specs.Lent.{AreInPlace, Lent, trace_at, unsettled_at, view_of}
use Rattle.cluster_port.proofs.Placing.{past, set_here, set_length, set_there}
use Rattle.repo_site.proofs.Grown.{none_grew}
use Rattle.repo_site.proofs.Stopping.{does_down}
use Rattle.repo_site.specs.Standing.{is_client, unsettled_of}
use Rattle.repo_site.specs.Seen.{phase, phase_from}
use Rattle.repo_site.specs.Agreeing.{trace_of}
use Rattle.log_entries.specs.declared.entry.Entry.{Entry}
use Rattle.repo_refusals.specs.declared.refusal.Refusal.{Refusal}
use Rattle.repo_site.proofs.Leaving.{calm, may_leave}
use Rattle.repo_site.specs.Run.{Run}
use Rattle.repo_site.specs.Sited.{Happens, Sited}
use Rattle.repo_site.specs.Working.{IfUp, SiteShows}
use Rattle.spec_history.specs.History.{Base}
use Rattle.spec_trace.specs.Gaps.{maker}
use Rattle.spec_trace.specs.Trace.{E, Item}
use Rattle.std.proofs.Common.{Bool, List, Option, [], ap, cond, false, get_or, length, refl, subst, sym, true, ◌<◌, ◌∙◌, ◌∷◌, ◌≡◌, ◌≤◌, ℕ}
use Rattle.std.proofs.lemmas.Option.{slice_get_read}
use Rattle.std.specs.List.{slice_get}
use Rattle.std.specs.Prelude.{None, Result, Some, slice_set, suc, zero, ◌≢◌, ◌⊎◌}

-- ---- what is unsettled of one that is down

not_calm : (b : Base) (c : ℕ) (T : List Item) (torn : Bool) (pending : Option Entry) → unsettled_of b c T (phase_from false torn pending) ≢ Calm
not_calm b c T true pending e = cc
not_calm b c T false None e = cc
not_calm b c T false (Some d) e = by (is_client c (maker b T (E d))) e
  where
    by : (t : Bool) → cond t (MayCome d) Halted ≡ Calm → ⊥
    by true g = cc
    by false g = cc

-- one that isn't there is down
pub none_there : {X : Type 0} (run : Run) (c : ℕ) (sites : List Sited) (r : ℕ) (result : Result X Refusal) (work : Base → List Item → List Item → Unsettled → Type 0) → slice_get sites r ≡ None → IsDown r result → Does (view_of run c sites) (view_of run c sites) r result work
none_there {X} run c sites r result work none d = does_down (view_of run c sites) r X result work halted d
  where
    halted : (view_of run c sites).unsettled r ≢ Calm
    halted e = let h : Halted ≡ Calm = sym (ap (unsettled_at run c) none) ∙ e in cc

-- ---- one that is there

module _ (run : Run) (c : ℕ) (sites : List Sited) (r : ℕ) (old new : Sited) (there : slice_get sites r ≡ Some old) (placed : old.number ≡ r) (same : new.number ≡ old.number) where
  abbrev after : List Sited
  after = slice_set sites r new

  abbrev was : View
  was = view_of run c sites

  abbrev now : View
  now = view_of run c after

  abbrev left_of : Sited → Unsettled
  left_of x = unsettled_of (run.base old.number) c (trace_of x.shown.trace) (phase x.shown)

  seen_old : was.seen r ≡ trace_of old.shown.trace
  seen_old = ap trace_at there

  seen_new : now.seen r ≡ trace_of new.shown.trace
  seen_new = ap trace_at (set_here sites r old new there)

  left_old : was.unsettled r ≡ left_of old
  left_old = ap (unsettled_at run c) there

  left_new : now.unsettled r ≡ left_of new
  left_new = ap (unsettled_at run c) (set_here sites r old new there) ∙ ap (λ (n : ℕ). unsettled_of (run.base n) c (trace_of new.shown.trace) (phase new.shown)) same

  seen_there : (n : ℕ) → n ≢ r → now.seen n ≡ was.seen n
  seen_there n other = ap trace_at (set_there sites r n new other)

  left_there : (n : ℕ) → n ≢ r → now.unsettled n ≡ was.unsettled n
  left_there n other = ap (unsettled_at run c) (set_there sites r n new other)

  -- it met what was seen
  called : (at : List Item) (met : Unsettled) → was.seen r ≡ at → was.unsettled r ≡ met → Called was now r at met
  called at met e f = record {
    same = ap (λ (n : ℕ). let o : Opened = record { client = c; alone = true; repos = n; base = run.base } in o) (set_length sites r new);
    reached = subst (λ (T : List Item). Grew (run.base r) c (was.unsettled r) (was.seen r) met T) e (subst (λ (u : Unsettled). Grew (run.base r) c (was.unsettled r) (was.seen r) u (was.seen r)) f (none_grew (run.base r) c (was.unsettled r) (was.seen r)));
    others = λ n other.
        subst (λ (u : Unsettled). Grew (run.base n) c (was.unsettled n) (was.seen n) u (now.seen n)) (sym (left_there n other))
        (subst (λ (T : List Item). Grew (run.base n) c (was.unsettled n) (was.seen n) (was.unsettled n) T) (sym (seen_there n other)) (none_grew (run.base n) c (was.unsettled n) (was.seen n)));
    alone = λ a. (sym e, sym f);
    alone_others = λ a n other. (seen_there n other, left_there n other);
  }

  module _ {X : Type 0} (result : Result X Refusal) (work : Base → List Item → List Item → Unsettled → Type 0) where
    down_so : (u : Unsettled) (T : List Item) → u ≢ Calm → IsDown r result → T ≡ trace_of old.shown.trace → Answered r result u (trace_of old.shown.trace) T u (work (run.base r) (trace_of old.shown.trace) T u)
    down_so Calm T other d e = absurd (other refl)
    down_so (MayCome f) T other d e = (d, e, refl)
    down_so Halted T other d e = (d, e, refl)

    halts : old.shown.is_up ≡ false → left_of old ≢ Calm
    halts down e =
        not_calm (run.base old.number) c (trace_of old.shown.trace) old.shown.is_torn old.shown.pending
        (subst (λ (t : Bool). unsettled_of (run.base old.number) c (trace_of old.shown.trace) (phase_from t old.shown.is_torn old.shown.pending) ≡ Calm) down e)

    -- what is unsettled stays
    down_answers : old.shown.is_up ≡ false → IsDown r result → new ≡ old → Answered r result (left_of old) (trace_of old.shown.trace) (now.seen r) (now.unsettled r) (work (run.base r) (trace_of old.shown.trace) (now.seen r) (now.unsettled r))
    down_answers down refused stays =
        subst (λ (u : Unsettled). Answered r result (left_of old) (trace_of old.shown.trace) (now.seen r) u (work (run.base r) (trace_of old.shown.trace) (now.seen r) u)) (sym (left_new ∙ ap left_of stays))
        (down_so (left_of old) (now.seen r) (halts down) refused (seen_new ∙ ap (λ (x : Sited). trace_of x.shown.trace) stays))

    by : (t : Bool) → old.shown.is_up ≡ t → IfUp t (work (run.base old.number) (trace_of old.shown.trace) (trace_of new.shown.trace) (left_of new)) (IsDown old.number result × (new ≡ old)) → Does was now r result work
    by false e h = record {
      at = trace_of old.shown.trace;
      met = left_of old;
      called = called (trace_of old.shown.trace) (left_of old) seen_old left_old;
      answer = down_answers e (subst (λ (n : ℕ). IsDown n result) placed h.0) h.1;
    }
    by true e h = record {
      at = trace_of old.shown.trace;
      met = Calm;
      called = called (trace_of old.shown.trace) Calm seen_old (left_old ∙ calm old.shown (left_of old) (may_leave (run.base old.number) c (trace_of old.shown.trace) (phase old.shown)) e);
      answer =
          subst (λ (u : Unsettled). work (run.base r) (trace_of old.shown.trace) (now.seen r) u) (sym left_new)
          (subst (λ (T : List Item). work (run.base r) (trace_of old.shown.trace) T (left_of new)) (sym seen_new)
          (subst (λ (n : ℕ). work (run.base n) (trace_of old.shown.trace) (trace_of new.shown.trace) (left_of new)) placed h));
    }

    pub lent : SiteShows run c old new result work → Does was now r result work
    lent h = by old.shown.is_up refl h

-- ---- a place of the list

-- one of the list at a place
pub lent_at : {X : Type 0} (run : Run) (c : ℕ) (sites : List Sited) (r i n : ℕ) (old new : Sited) → AreInPlace sites → Happens run old new → i ≡ r → n ≡ length sites → i < n → old ≡ get_or sites i old → (result : Result X Refusal) (work : Base → List Item → List Item → Unsettled → Type 0)
    → SiteShows run c old new result work → Does (view_of run c sites) (view_of run c (slice_set sites i new)) r result work
lent_at run c sites r i n old new a happens place count within found result work h =
    let there : slice_get sites i ≡ Some old = slice_get_read sites n i old count within found in
    let here : slice_get sites r ≡ Some old = ap (slice_get sites) (sym place) ∙ there in
    subst (λ (k : ℕ). Does (view_of run c sites) (view_of run c (slice_set sites k new)) r result work) (sym place) (lent run c sites r old new here (a.placed r old here) happens.number result work h)

-- none at a place
pub none_at : {X : Type 0} (run : Run) (c : ℕ) (sites : List Sited) (r i n : ℕ) → i ≡ r → n ≡ length sites → (i < n → false ≡ true) → (result : Result X Refusal) (work : Base → List Item → List Item → Unsettled → Type 0) → IsDown r result → Does (view_of run c sites) (view_of run c sites) r result work
none_at run c sites r i n place count out result work d = none_there run c sites r result work (ap (slice_get sites) (sym place) ∙ past sites i n count out) d

-- ---- what is lent

abbrev lent_to : ℕ → List Sited → Lent
lent_to c sites = record { client = c; sites = sites }

-- the same, as what is lent is seen
pub as_lent : {X : Type 0} (run : Run) (c : ℕ) (sites : List Sited) (l : Lent) (now : View) (r : ℕ) (result : Result X Refusal) (work : Base → List Item → List Item → Unsettled → Type 0) → lent_to c sites ≡ l → Does (view_of run c sites) now r result work → Does (view_of run l.client l.sites) now r result work
as_lent run c sites l now r result work is does = subst (λ (k : Lent). Does (view_of run k.client k.sites) now r result work) is does
