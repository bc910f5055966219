-- What is in memory says what the history says behind an entry.
use Rattle.log_entries.specs.declared.entry.Entry.TheVariants.{Decided, Finished, Life, One, Prepared, Upgraded}
use Rattle.log_entries.specs.declared.entry.Entry.{Entry}
use Rattle.log_entries.specs.declared.request.Request.{Request}
use Rattle.repo_state.specs.Entering.{entered}
use Rattle.repo_state.specs.declared.held.Held.{Held}
use Rattle.spec_history.specs.History.{Base, Open, State, known_in, state}
use Rattle.spec_history.specs.Sound.{owes}
use Rattle.law_repo_memory.proofs.Decisions.{held-decided, held-finished, named}
use Rattle.law_repo_memory.proofs.Judging.{same-kind, same-transaction}
use Rattle.law_repo_memory.proofs.Lives.{held-life, queue-life}
use Rattle.law_repo_memory.proofs.Opens.{undecided-some}
use Rattle.law_repo_memory.proofs.Owed.{trace-behind}
use Rattle.law_repo_memory.proofs.Requests.{held-one, held-prepared, held-upgraded}
use Rattle.law_repo_memory.proofs.Traced.{drawn-end}
use Rattle.law_repo_memory.specs.Agreeing.{Agrees, HeldAgrees, state_of, trace_of}
use Rattle.law_repo_memory.specs.Coming.{Moves, decided_queue}
use Rattle.spec_trace.proofs.Traces.{entries-items}
use Rattle.spec_trace.specs.Calls.{drawn_after, last_drawn}
use Rattle.spec_trace.specs.Trace.{E}
use Rattle.std.proofs.Common.{Bool, List, ap, cond, subst, sym, ℕ, ◌<◌, ◌≡◌, ◌∙◌}
use Rattle.std.specs.List.{AllByRecursion}
use Rattle.std.specs.Option.{option_map}
use Rattle.std.specs.Prelude.{Option, Some, false, is_some, true, ◌&&◌}
use Rattle.thor_value.specs.FiniteMap.{get, has}
use Rattle.thor_value.specs.declared.names.Ts.{Ts}
use Rattle.repo_trace.specs.Recorded.{Recorded, with_entry}
use Rattle.two_phase.specs.Contents.{open_at}
use Rattle.validation_queue.specs.Contents as queue
use Rattle.validation_queue.specs.Contents.{Contents, Transaction}
use Rattle.repo_refusals.proofs.Covered.{held}
use Rattle.repo_refusals.proofs.Following.{follows}
use Rattle.repo_refusals.proofs.Queued.{get-queue}
use Rattle.repo_refusals.specs.Queue as windowed
use Rattle.repo_refusals.specs.Queue.{close_queue, close_queue_by, queue_of, queued_of}
use Rattle.repo_refusals.specs.Window.{window}
use Rattle.repo_volatile.specs.Volatile.{Memory, is_upgrade_kind, transaction_of}

module _ (b : Base) (r : Recorded) (h : Held) (M N : Memory) (a : Agrees b r h M) where
  abbrev S : State
  S = state_of b r

  -- the time drawn last behind an entry
  drawn-entry : (e : Entry) → owes b S e → last_drawn b (trace_of (with_entry r e)) ≡ drawn_after S (last_drawn b (trace_of r)) (E e)
  drawn-entry e ow =
      ap (last_drawn b) (trace-behind b r a.held.owed e ow) ∙ (drawn-end b (trace_of r) (E e)
      ∙ ap (λ (H : List Entry). drawn_after (state b H) (last_drawn b (trace_of r)) (E e)) (entries-items r.history r.marks a.held.owed.trace))

  enters : (q : Request) (d : Bool) → queue.enter M.queue (transaction_of q) d ≡ queue.enter (queue_of (window b r.history)) (windowed.transaction_of q) d
  enters q d = ap (λ (Q : Contents). queue.enter Q (transaction_of q) d) a.queue ∙ ap (λ (x : Transaction). queue.enter (queue_of (window b r.history)) x d) (same-transaction q)

  pub agrees-prepared : (q : Request) → owes b S (Prepared q) → has h.table.transactions q.tx ≡ false → AllByRecursion (λ w. w.0.page < h.next_grant) q.writes → Moves h M (Prepared q) N
      → Agrees b (with_entry r (Prepared q)) (entered h (Prepared q)) N
  agrees-prepared q ow unkept granted m = record {
    held = subst (HeldAgrees b (with_entry r (Prepared q)) (entered h (Prepared q))) (sym m.requested) (held-prepared b r h M.requested q a.held unkept granted ow);
    queue = m.queue ∙ (enters q false ∙ sym (follows b r.history (Prepared q) a.held.owed.sound));
    drawn = m.drawn ∙ (a.drawn ∙ sym (drawn-entry (Prepared q) ow));
  }

  pub agrees-one : (q : Request) → owes b S (One q) → has h.table.transactions q.tx ≡ false → AllByRecursion (λ w. w.0.page < h.next_grant) q.writes → Moves h M (One q) N
      → Agrees b (with_entry r (One q)) (entered h (One q)) N
  agrees-one q ow unkept granted m = record {
    held = subst (HeldAgrees b (with_entry r (One q)) (entered h (One q))) (sym m.requested) (held-one b r h M.requested q a.held unkept granted ow);
    queue = m.queue ∙ (ap (λ x. cond x (queue.cleared q.tx) (queue.enter M.queue (transaction_of q) true)) (same-kind q.kind ∙ ow.2) ∙ (enters q true ∙ sym (follows b r.history (One q) a.held.owed.sound)));
    drawn = m.drawn ∙ (a.drawn ∙ sym (drawn-entry (One q) ow));
  }

  pub agrees-upgraded : (q : Request) → owes b S (Upgraded q) → has h.table.transactions q.tx ≡ false → AllByRecursion (λ w. w.0.page < h.next_grant) q.writes → Moves h M (Upgraded q) N
      → Agrees b (with_entry r (Upgraded q)) (entered h (Upgraded q)) N
  agrees-upgraded q ow unkept granted m = record {
    held = subst (HeldAgrees b (with_entry r (Upgraded q)) (entered h (Upgraded q))) (sym m.requested) (held-upgraded b r h M.requested q a.held unkept granted ow);
    queue = m.queue ∙ (ap (λ x. cond x (queue.cleared q.tx) (queue.enter M.queue (transaction_of q) true)) (same-kind q.kind ∙ ow.2) ∙ sym (follows b r.history (Upgraded q) a.held.owed.sound));
    drawn = m.drawn ∙ (a.drawn ∙ sym (drawn-entry (Upgraded q) ow));
  }

  -- the queue behind a decision
  closes : (t : Ts) (q : Request) (c : Bool) → open_at h.table t ≡ Some q → decided_queue M.queue t c (open_at h.table t) ≡ close_queue (queue_of (window b r.history)) t c (known_in b S t)
  closes t q c there =
      let p = undecided-some b S (known_in b S t) q (sym (a.held.table.undecided t) ∙ there) in
      ap (decided_queue M.queue t c) there
      ∙ (ap (λ (Q : Contents). decided_queue Q t c (Some q)) a.queue
      ∙ (ap (λ u. cond (c && is_upgrade_kind q.kind) (queue.cleared u) (queue.decide (queue_of (window b r.history)) t c)) (named b r h M.requested t q a.held there)
      ∙ (ap (λ x. cond (c && x) (queue.cleared t) (queue.decide (queue_of (window b r.history)) t c)) (same-kind q.kind)
      ∙ (ap (λ (s : Request). close_queue_by (queue_of (window b r.history)) t c s Open) (sym p.3)
      ∙ (ap (close_queue_by (queue_of (window b r.history)) t c p.0.request) (sym p.2)
      ∙ ap (close_queue (queue_of (window b r.history)) t c) (sym p.1))))))

  pub agrees-decided : (t : Ts) (q : Request) (c : Bool) → open_at h.table t ≡ Some q → owes b S (Decided t c) → Moves h M (Decided t c) N → Agrees b (with_entry r (Decided t c)) (entered h (Decided t c)) N
  agrees-decided t q c there ow m = record {
    held = subst (HeldAgrees b (with_entry r (Decided t c)) (entered h (Decided t c))) (sym m.requested) (held-decided b r h M.requested t q a.held there c ow);
    queue = m.queue ∙ (closes t q c there ∙ sym (follows b r.history (Decided t c) a.held.owed.sound));
    drawn = m.drawn ∙ (a.drawn ∙ sym (drawn-entry (Decided t c) ow));
  }

  pub agrees-finished : (t : Ts) (q : Request) (c : Bool) → open_at h.table t ≡ Some q → owes b S (Finished t c) → Moves h M (Finished t c) N → Agrees b (with_entry r (Finished t c)) (entered h (Finished t c)) N
  agrees-finished t q c there ow m = record {
    held = subst (HeldAgrees b (with_entry r (Finished t c)) (entered h (Finished t c))) (sym m.requested) (held-finished b r h M.requested t q a.held there c ow);
    queue = m.queue ∙ (closes t q c there ∙ sym (follows b r.history (Finished t c) a.held.owed.sound));
    drawn = m.drawn ∙ (a.drawn ∙ sym (drawn-entry (Finished t c) ow));
  }

-- ---- a life, whatever the queue was

pub agrees-life : (b : Base) (r : Recorded) (h : Held) (M N : Memory) (n : ℕ) → HeldAgrees b r h M.requested → owes b (state_of b r) (Life n) → Moves h M (Life n) N → Agrees b (with_entry r (Life n)) (entered h (Life n)) N
agrees-life b r h M N n a ow m = record {
  held = subst (HeldAgrees b (with_entry r (Life n)) (entered h (Life n))) (sym m.requested) (held-life b r h M.requested n a ow);
  queue = queue-life b r h M N n a m;
  drawn = m.drawn ∙ (ap (λ (t : Ts). t.time) a.threshold ∙ sym
      (ap (last_drawn b) (trace-behind b r a.owed (Life n) ow) ∙ (drawn-end b (trace_of r) (E (Life n))
      ∙ ap (λ (H : List Entry). drawn_after (state b H) (last_drawn b (trace_of r)) (E (Life n))) (entries-items r.history r.marks a.owed.trace))));
}

-- ---- what is open is in the queue

has_mapped : {A B : Type 0} (f : A → B) (o : Option A) (x : A) → o ≡ Some x → is_some (option_map f o) ≡ true
has_mapped f o x e = ap (λ p. is_some (option_map f p)) e

pub open-member : (b : Base) (r : Recorded) (h : Held) (M : Memory) (t : Ts) (q : Request) → Agrees b r h M → open_at h.table t ≡ Some q → has M.queue.members t ≡ true
open-member b r h M t q a there =
    let p = undecided-some b (state_of b r) (known_in b (state_of b r) t) q (sym (a.held.table.undecided t) ∙ there) in
    let x = (held b r.history a.held.owed.sound).opens t p.0 p.1 p.2 in
    ap (λ (Q : Contents). has Q.members t) a.queue ∙ (ap is_some (get-queue (window b r.history) t) ∙ has_mapped queued_of (get (window b r.history).members t) x.0 x.1)
