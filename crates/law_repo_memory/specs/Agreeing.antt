-- When what a repository keeps in memory says what its history says.
use Rattle.repo_state.specs.declared.held.Held.{Held}
use Rattle.spec_history.specs.History.{Base, State, state}
use Rattle.spec_history.specs.Sound.{sound}
use Rattle.law_repo_memory.specs.Tables.{TableAgrees}
use Rattle.spec_trace.specs.Calls.{is_forgotten, is_kept, last_drawn, next_page}
use Rattle.spec_trace.specs.Trace.{IsTrace, Item, items}
use Rattle.std.specs.Prelude.{List, None, is_some, length, true, ◌+◌, ◌<◌, ◌≡◌, ◌≤◌}
use Rattle.thor_value.specs.FiniteMap.{Set, get, has}
use Rattle.thor_value.specs.Names.{ts_cmp}
use Rattle.thor_value.specs.declared.names.Ts.{Ts}
use Rattle.repo_trace.specs.Recorded.{Recorded}
use Rattle.two_phase.specs.Contents.{keeps}
use Rattle.repo_refusals.specs.Queue.{queue_of}
use Rattle.repo_refusals.specs.Window.{window}
use Rattle.repo_volatile.specs.Volatile.{Memory}

-- the trace that is recorded
abbrev pub trace_of : Recorded → List Item
trace_of r = items r.history r.marks

-- what the recorded history comes to
abbrev pub state_of : Base → Recorded → State
state_of b r = state b r.history

-- What holds of a recorded history, whatever is in memory.
pub record IsOwed (b : Base) (r : Recorded) : Type 0 where
  pub trace : IsTrace r.history r.marks
  pub sound : sound b r.history
  -- of the transactions that earlier runs left prepared none has still to be settled
  pub settled : (t : Ts) → get (state_of b r).left t ≡ None
  -- a decision that was forgotten had been made here
  pub forgotten : (t : Ts) → is_forgotten (trace_of r) t ≡ true → has (state_of b r).kept t ≡ true

-- What is held says what the history says, but for the objects: so does the table, with the decisions of this run;
-- and each transaction of the history counts as one that came. A restart keeps all of it.
pub record HeldAgrees (b : Base) (r : Recorded) (h : Held) (requested : Set ts_cmp) : Type 0 where
  pub owed : IsOwed b r
  pub repo : h.repo ≡ b.repo
  pub life : h.life ≡ (state_of b r).life
  pub count : h.count ≡ b.count + length r.history
  pub threshold : h.threshold ≡ (state_of b r).top
  pub upgrades : h.upgrades ≡ (state_of b r).texts
  pub table : TableAgrees b (state_of b r) h.table
  pub kept : (t : Ts) → b.life < t.life → keeps (get h.table.transactions t) ≡ is_kept b (trace_of r) t
  -- the page that is granted next is the least that was never granted
  pub next : h.next_grant ≡ next_page b (trace_of r)
  pub pages : h.next_page ≤ h.next_grant
  pub came : (t : Ts) → is_some (get (state_of b r).known t) ≡ true → has requested t ≡ true

-- What a repository that is up has in memory says what its history says: the queue is the window, and the time that
-- was drawn last is the trace's.
pub record Agrees (b : Base) (r : Recorded) (h : Held) (M : Memory) : Type 0 where
  pub held : HeldAgrees b r h M.requested
  pub queue : M.queue ≡ queue_of (window b r.history)
  pub drawn : M.drawn ≡ last_drawn b (trace_of r)
