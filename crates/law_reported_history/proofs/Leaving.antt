-- What is left of each repository of a run stands for its history.
use Rattle.cluster_core.specs.Histories.{EndsAs}
use Rattle.cluster_core.specs.Seated.{AreLeft, run_of}
use Rattle.cluster_port.specs.Run.{Run}
use Rattle.cluster_port.specs.Sited.{IsLeft, recorded}
use Rattle.commit_log.specs.Recovered.{after}
use Rattle.disk_trait.specs.AllDisks.{MayLeaveAll, TellsAll}
use Rattle.disk_trait.specs.Disks.{Disks}
use Rattle.law_repo_memory.specs.Agreeing.{HeldAgrees}
use Rattle.law_repo_runs.specs.Standing.{MayBeNext}
use Rattle.law_reported_history.specs.Left.{AreUndecided, SaysMore, SaysOf, StandFor}
use Rattle.log_codec.specs.declared.body.Body.TheVariants.{Installed}
use Rattle.log_codec.specs.declared.state.State.{State}
use Rattle.log_entries.specs.declared.entry.Entry.{Entry}
use Rattle.repo_durable.specs.Remembering.{Remembers}
use Rattle.repo_durable.specs.Saying.{IsOneOf}
use Rattle.repo_state.specs.Said.{said}
use Rattle.repo_state.specs.declared.held.Held.{Held}
use Rattle.repo_trace.specs.Recorded.{Recorded}
use Rattle.repo_trace.specs.declared.trace.Trace.{Trace}
use Rattle.spec_history.specs.History.{Base}
use Rattle.std.proofs.Common.{List, None, Option, Some, ap, arith, inl, inr, refl, subst, suc, sym, true, zero, ℕ, ◌+◌, ◌∙◌, ◌∷◌, ◌≡◌}
use Rattle.std.proofs.lemmas.Option.{same_Some}
use Rattle.std.specs.List.{slice_get}
use Rattle.std.specs.Option.{IfSome}
use Rattle.std.specs.Ordering.{nat_cmp}
use Rattle.std.specs.Prelude.{[], ◌⊎◌}
use Rattle.thor_value.specs.FiniteMap.{Map, Set}
use Rattle.thor_value.specs.Names.{ts_cmp}
use Rattle.thor_value.specs.declared.names.Ts.{Ts}
use Rattle.two_phase.proofs.Lists.{lookup_those, sorted_those}
use Rattle.two_phase.specs.Contents.{request_of}
use Rattle.two_phase.specs.Lists.{those}

-- ---- one repository

-- what is held says what the history says
held_says : (b : Base) (r : Recorded) (h : Held) (m : Set ts_cmp) → HeldAgrees b r h m → SaysOf b r.history (said h)
held_says b r h m a = record {
  repo = a.repo;
  life = a.life;
  count = a.count;
  threshold = a.threshold;
  upgrades = a.upgrades;
  alone = ap (λ (c : Map nat_cmp Ts). c.pairs) a.table.alone;
  prepared = record {
    by_name = record { pairs = those request_of h.table.transactions.pairs };
    sorted = sorted_those request_of h.table.transactions.pairs a.table.sorted;
    each = λ t. lookup_those request_of t h.table.transactions.pairs a.table.sorted ∙ a.table.undecided t;
    all = refl;
  };
}

-- so does a state that says the same
says_remembered : (b : Base) (H : List Entry) (s a : State) → SaysOf b H a → Remembers s a → SaysOf b H s
says_remembered b H s a k m = record {
  repo = ap (λ (z : State). z.repo) m.rest ∙ k.repo;
  life = ap (λ (z : State). z.life) m.rest ∙ k.life;
  count = ap (λ (z : State). z.count) m.rest ∙ k.count;
  threshold = ap (λ (z : State). z.threshold) m.rest ∙ k.threshold;
  upgrades = ap (λ (z : State). z.upgrades) m.rest ∙ k.upgrades;
  alone = ap (λ (z : State). z.alone) m.rest ∙ k.alone;
  prepared = subst (AreUndecided b H) (sym (ap (λ (z : State). z.prepared) m.rest)) k.prepared;
}

-- and one with a page in use
says_installed : (b : Base) (H : List Entry) (a : State) (page side : ℕ) → SaysOf b H a → SaysOf b H (after a (Installed page side))
says_installed b H a page side k = record { repo = k.repo; life = k.life; count = k.count; threshold = k.threshold; upgrades = k.upgrades; alone = k.alone; prepared = k.prepared }

one_of : (b : Base) (r : Recorded) (h : Held) (m : Set ts_cmp) (pending : Option Entry) (s : State) (image : List ℕ) → HeldAgrees b r h m → IfSome pending (MayBeNext b r h) → IsOneOf h pending s image → SaysOf b r.history s ⊎ SaysMore b r.history s
one_of b r h m None s image a next (inl back) = inl (says_remembered b r.history s (said h) (held_says b r h m a) back)
one_of b r h m None s image a next (inr i) = inl (says_remembered b r.history s (after (said h) (Installed i.page i.side)) (says_installed b r.history (said h) i.page i.side (held_says b r h m a)) i.says)
one_of b r h m (Some e) s image a next (inl back) = inl (says_remembered b r.history s (said h) (held_says b r h m a) back)
one_of b r h m (Some e) s image a next (inr behind) = inr (record { before = said h; says = held_says b r h m a; entry = e; owes = next.owes; comes = behind })

pub stands_for : (b : Base) (disks : Disks) (t : Trace) (images : ℕ → List ℕ) → IsLeft b disks t → TellsAll disks → MayLeaveAll disks disks.time images → StandFor b t.history images
stands_for b disks t images l tells left =
    let one = l.images.each tells images left in
    record { stored = one.state; stands = one.stands; says = one_of b (recorded t) l.held l.requested l.pending one.state (images 2) l.says l.next one.says }

-- ---- each repository of a run

left_at : {P : Type 0} (disks : P → Disks) (run : Run) (n r : ℕ) (ps : List P) (ts : List Trace) (p : P) (t : Trace) → AreLeft disks run n ps ts → run.based ≡ true → slice_get ps r ≡ Some p → slice_get ts r ≡ Some t → IsLeft (run.base (n + r)) (disks p) t
left_at disks run n zero (q ∷ qs) (u ∷ us) p t left based at_p at_t =
    subst (λ (k : ℕ). IsLeft (run.base k) (disks p) t) (omega arith)
    (subst (λ z. IsLeft (run.base n) (disks z) t) (same_Some q p at_p)
    (subst (λ (z : Trace). IsLeft (run.base n) (disks q) z) (same_Some u t at_t) (left.0 based)))
left_at disks run n (suc r) (q ∷ qs) (u ∷ us) p t left based at_p at_t =
    subst (λ (k : ℕ). IsLeft (run.base k) (disks p) t) (omega arith) (left_at disks run (suc n) r qs us p t left.1 based at_p at_t)
left_at disks run n r (q ∷ qs) [] p t left based at_p at_t = absurd left
left_at disks run n r [] (u ∷ us) p t left based at_p at_t = absurd left
left_at disks run n r [] [] p t left based at_p at_t = absurd (let no : None ≡ Some p = at_p in cc)

pub each_left : {P : Type 0} (disks : P → Disks) (given ended : List P) (traces : List Trace) (e : EndsAs disks given ended traces) → (run_of e.histories.places e.histories.mob e.histories.start).based ≡ true
    → (r : ℕ) (p : P) (t : Trace) → slice_get ended r ≡ Some p → slice_get traces r ≡ Some t → IsLeft ((run_of e.histories.places e.histories.mob e.histories.start).base r) (disks p) t
each_left disks given ended traces e based r p t at_p at_t =
    let run = run_of e.histories.places e.histories.mob e.histories.start in
    subst (λ (k : ℕ). IsLeft (run.base k) (disks p) t) (omega arith) (left_at disks run 0 r ended traces p t e.left based at_p at_t)
