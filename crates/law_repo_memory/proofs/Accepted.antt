-- What is accepted by the memory owes nothing.
use Rattle.log_entries.specs.declared.entry.Entry.TheVariants.{Decided, Finished, One, Prepared, Upgraded}
use Rattle.log_entries.specs.declared.entry.Entry.{Entry}
use Rattle.log_entries.specs.declared.request.Request.{Request}
use Rattle.repo_state.specs.declared.held.Held.{Held}
use Rattle.spec_history.proofs.Growth.{sound-end}
use Rattle.spec_history.proofs.Stamps.{before_at_most}
use Rattle.spec_history.specs.History.{Base, is_open, is_undecided, known_in, state}
use Rattle.spec_history.specs.Laws.{Continues}
use Rattle.spec_history.specs.Participants.{IsAlone, IsShared}
use Rattle.spec_history.specs.Requests.{is_upgrade}
use Rattle.spec_history.specs.Sound.{Vouches, owes, sound}
use Rattle.law_repo_memory.proofs.Judging.{accepted-by-trace}
use Rattle.law_repo_memory.proofs.Opens.{undecided-some}
use Rattle.law_repo_memory.specs.Agreeing.{Agrees, HeldAgrees, state_of, trace_of}
use Rattle.law_repo_memory.specs.Judging.{IsAccepted, SessionsAnswer}
use Rattle.spec_trace.proofs.Accepted.{passed}
use Rattle.spec_trace.proofs.Accepted as traced
use Rattle.spec_trace.proofs.Traces.{entries-items}
use Rattle.spec_trace.specs.Session.{session}
use Rattle.spec_trace.specs.Trace.{entries}
use Rattle.spec_trace.specs.Verdict.{stale}
use Rattle.std.proofs.Common.{Bool, List, ap, inl, subst, sym, ℕ, ◌≡◌, ◌∙◌}
use Rattle.std.specs.Prelude.{Some, false, true, ◌≢◌}
use Rattle.thor_value.specs.FiniteMap.{Set}
use Rattle.thor_value.specs.Names.{AtMost, ts_cmp}
use Rattle.thor_value.specs.declared.names.Ts.{Ts}
use Rattle.repo_trace.specs.Recorded.{Recorded}
use Rattle.two_phase.specs.Contents.{open_at}
use Rattle.repo_refusals.proofs.Validated.{above_threshold, nothing_holds}
use Rattle.repo_refusals.specs.Refusals.{full}
use Rattle.repo_refusals.specs.Window.{window}
use Rattle.repo_volatile.specs.Volatile.{Memory}

module _ (b : Base) (r : Recorded) (h : Held) (M : Memory) (s : ℕ) (q : Request) (a : Agrees b r h M) (sessions : SessionsAnswer b (trace_of r) M.sessions) (accepted : IsAccepted b r h M s q) where
  history : entries (trace_of r) ≡ r.history
  history = entries-items r.history r.marks a.held.owed.trace

  is-sound : sound b (entries (trace_of r))
  is-sound = subst (sound b) (sym history) a.held.owed.sound

  pub not-too-old : AtMost (window b r.history).threshold q.tx
  not-too-old =
      let p = passed b (entries (trace_of r)) s q (session b (trace_of r) s) (accepted-by-trace b r h M s q a sessions accepted) in
      let none = nothing_holds (state b (entries (trace_of r))) (window b (entries (trace_of r))) (stale b (entries (trace_of r)) s p.0 q) (full b (window b (entries (trace_of r))) q) q p.3 in
      subst (λ (H : List Entry). AtMost (window b H).threshold q.tx) history
      (before_at_most (window b (entries (trace_of r))).threshold q.tx (above_threshold (window b (entries (trace_of r))) q none.old))

  vouched-by : Vouches b (state_of b r) q → Vouches b (state b (entries (trace_of r))) q
  vouched-by v = subst (λ (H : List Entry). Vouches b (state b H) q) (sym history) v

  owes-by : (e : Entry) → Continues b (entries (trace_of r)) e → owes b (state_of b r) e
  owes-by e c = subst (λ (H : List Entry). owes b (state b H) e) history c.0

  pub owes-prepared : Vouches b (state_of b r) q → IsShared q → owes b (state_of b r) (Prepared q)
  owes-prepared v shared = owes-by (Prepared q) (traced.prepared b (trace_of r) s q is-sound (vouched-by v) shared (accepted-by-trace b r h M s q a sessions accepted))

  pub owes-one : Vouches b (state_of b r) q → IsAlone b q → is_upgrade q ≡ false → owes b (state_of b r) (One q)
  owes-one v alone kind = owes-by (One q) (traced.one b (trace_of r) s q is-sound (vouched-by v) alone kind (accepted-by-trace b r h M s q a sessions accepted))

  pub owes-upgraded : Vouches b (state_of b r) q → IsAlone b q → is_upgrade q ≡ true → owes b (state_of b r) (Upgraded q)
  owes-upgraded v alone kind = owes-by (Upgraded q) (traced.upgraded b (trace_of r) s q is-sound (vouched-by v) alone kind (accepted-by-trace b r h M s q a sessions accepted))

  continued : (e : Entry) → owes b (state_of b r) e → Continues b r.history e
  continued e ow = (ow, sound-end b r.history e a.held.owed.sound ow)

  pub continues-prepared : Vouches b (state_of b r) q → IsShared q → Continues b r.history (Prepared q)
  continues-prepared v shared = continued (Prepared q) (owes-prepared v shared)

  pub continues-one : Vouches b (state_of b r) q → IsAlone b q → is_upgrade q ≡ false → Continues b r.history (One q)
  continues-one v alone kind = continued (One q) (owes-one v alone kind)

  pub continues-upgraded : Vouches b (state_of b r) q → IsAlone b q → is_upgrade q ≡ true → Continues b r.history (Upgraded q)
  continues-upgraded v alone kind = continued (Upgraded q) (owes-upgraded v alone kind)

-- ---- decisions

module _ (b : Base) (r : Recorded) (h : Held) (requested : Set ts_cmp) (t : Ts) (q : Request) (a : HeldAgrees b r h requested) (there : open_at h.table t ≡ Some q) where
  pub undecided-open : is_undecided (known_in b (state_of b r) t) ≡ true
  undecided-open =
      let p = undecided-some b (state_of b r) (known_in b (state_of b r) t) q (sym (a.table.undecided t) ∙ there) in
      ap is_undecided p.1 ∙ ap is_open p.2

  pub owes-decided : (c : Bool) → t.repo ≡ b.repo → owes b (state_of b r) (Decided t c)
  owes-decided c here = (undecided-open, here)

  pub owes-finished : (c : Bool) → t.repo ≢ b.repo → owes b (state_of b r) (Finished t c)
  owes-finished c there' = inl (undecided-open, there')
