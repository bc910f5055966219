-- What events do to a repository, and runs of events.
use Rattle.log_entries.specs.declared.entry.Entry.TheVariants.{Decided, Finished, Life, One, Prepared, Upgraded}
use Rattle.log_entries.specs.declared.entry.Entry.{Entry}
use Rattle.log_entries.specs.declared.request.Request.{Request}
use Rattle.repo_state.specs.Entering.{entered}
use Rattle.repo_state.specs.declared.held.Held.{Held}
use Rattle.spec_history.specs.History.{Base}
use Rattle.spec_history.specs.Participants.{IsAlone, IsShared}
use Rattle.spec_history.specs.Requests.{is_upgrade}
use Rattle.law_repo_memory.specs.Agreeing.{Agrees, state_of, trace_of}
use Rattle.law_repo_memory.specs.Coming.{Moves}
use Rattle.law_repo_memory.specs.Judging.{IsAccepted, IsVouched, SessionsAnswer}
use Rattle.spec_trace.specs.declared.mark.Mark.TheVariants as the
use Rattle.spec_trace.specs.declared.mark.Mark.{Mark}
use Rattle.std.specs.Option.{IsSome}
use Rattle.std.specs.Prelude.{List, None, Option, Some, [], cond, false, true, ℕ, ◌+◌, ◌<◌, ◌∷◌, ◌≡◌, ◌≢◌, ◌≤◌, ◌⊎◌}
use Rattle.thor_value.specs.FiniteMap.{IsSorted, Set, add, get, has}
use Rattle.thor_value.specs.Names.{ts_cmp}
use Rattle.thor_value.specs.declared.names.Ts.{Ts}
use Rattle.repo_trace.specs.Recorded.{Recorded, with_entry, with_mark}
use Rattle.two_phase.specs.Contents.{Contents, keeps, open_at, without}
use Rattle.repo_volatile.specs.Volatile.{Memory}

-- What contracts see of a repository, but whether it is up.
pub record Repository : Type 0 where
  pub held : Held
  pub memory : Memory
  pub trace : Recorded

-- what its memory has agrees with its history
abbrev pub IsInAgreement : Base → Repository → Type 0
IsInAgreement b x = Agrees b x.trace x.held x.memory

-- a request comes: it is accepted, and owes nothing by itself
pub record RequestComes (b : Base) (x : Repository) (q : Request) : Type 0 where
  pub session : ℕ
  pub sessions : SessionsAnswer b (trace_of x.trace) x.memory.sessions
  pub accepted : IsAccepted b x.trace x.held x.memory session q
  pub vouched : IsVouched b x.trace x.held q

-- What the call of an entry has found, and what its caller vouches for. Which repository coordinates a transaction
-- that is decided or finished here is the caller's to know.
abbrev pub MayEnter : Base → Repository → Entry → Type 0
MayEnter b x (Life n) = n ≡ x.held.life + 1
MayEnter b x (One q) = RequestComes b x q × IsAlone b q × (is_upgrade q ≡ false)
MayEnter b x (Prepared q) = RequestComes b x q × IsShared q
MayEnter b x (Decided t c) = IsSome (open_at x.held.table t) × (t.repo ≡ b.repo)
MayEnter b x (Finished t c) = IsSome (open_at x.held.table t) × (t.repo ≢ b.repo)
MayEnter b x (Upgraded q) = RequestComes b x q × IsAlone b q × (is_upgrade q ≡ true)

-- an entry comes
pub record EntryComes (b : Base) (x : Repository) (e : Entry) (y : Repository) : Type 0 where
  pub may : MayEnter b x e
  pub trace : y.trace ≡ with_entry x.trace e
  pub held : y.held ≡ entered x.held e
  pub memory : Moves x.held x.memory e y.memory

-- what is held, and the time drawn last, behind a mark. A decision that is forgotten was made here in this run
abbrev pub MarkChanges : Base → Repository → Mark → Repository → Type 0
MarkChanges b x (the.Connected s client) y = (y.held ≡ x.held) × (y.memory.drawn ≡ x.memory.drawn)
MarkChanges b x (the.Fetched s page upto) y = (y.held ≡ x.held) × (y.memory.drawn ≡ x.memory.drawn)
MarkChanges b x (the.Granted s page) y = (page ≡ x.held.next_grant) × (y.held ≡ record x.held { next_grant = x.held.next_grant + 1 }) × (y.memory.drawn ≡ x.memory.drawn)
MarkChanges b x (the.Took s place) y = (y.held ≡ x.held) × (y.memory.drawn ≡ x.memory.drawn)
MarkChanges b x (the.Drew s t) y = (y.held ≡ x.held) × (y.memory.drawn ≡ t.time)
MarkChanges b x (the.Forgot t) y =
    (has (state_of b x.trace).kept t ≡ true)
    × (y.held ≡ record x.held { table = cond (keeps (get x.held.table.transactions t)) (without x.held.table t) x.held.table })
    × (y.memory.drawn ≡ x.memory.drawn)
MarkChanges b x (the.Refused s q r) y = (y.held ≡ x.held) × (y.memory.drawn ≡ x.memory.drawn)

-- a mark comes
pub record MarkComes (b : Base) (x : Repository) (m : Mark) (y : Repository) : Type 0 where
  pub trace : y.trace ≡ with_mark x.trace m
  pub changes : MarkChanges b x m y
  pub queue : y.memory.queue ≡ x.memory.queue
  pub requested : y.memory.requested ≡ x.memory.requested

-- objects move, from the buffer to their pages or into memory
pub record ObjectsMove (x y : Repository) : Type 0 where
  pub trace : y.trace ≡ x.trace
  pub held : y.held ≡ record x.held { objects = y.held.objects }
  pub memory : y.memory ≡ x.memory

-- of the decisions that are kept some of earlier runs go
pub record EarlierGo (b : Base) (old new : Contents) : Type 0 where
  pub sorted : IsSorted new.transactions
  pub same : (t : Ts) → open_at new t ≡ open_at old t
  pub kept : (t : Ts) → b.life < t.life → keeps (get new.transactions t) ≡ keeps (get old.transactions t)
  pub alone : new.alone ≡ old.alone

-- the transactions that came, with that of an entry which is a request
abbrev pub came_with : Set ts_cmp → Entry → Set ts_cmp
came_with requested (Life n) = requested
came_with requested (One q) = add requested q.tx
came_with requested (Prepared q) = add requested q.tx
came_with requested (Decided t c) = requested
came_with requested (Finished t c) = requested
came_with requested (Upgraded q) = add requested q.tx

-- with the pending entry, where it is taken
abbrev pub held_with : Held → Option Entry → Held
held_with h None = h
held_with h (Some e) = entered h e

abbrev pub recorded_with : Recorded → Option Entry → Recorded
recorded_with r None = r
recorded_with r (Some e) = with_entry r e

abbrev pub requested_with : Set ts_cmp → Option Entry → Set ts_cmp
requested_with m None = m
requested_with m (Some e) = came_with m e

-- an entry that was being written is recovered: it might have come, and nothing has changed since
pub record EntryIsRecovered (b : Base) (x : Repository) (e : Entry) (y : Repository) : Type 0 where
  pub may : MayEnter b x e
  pub trace : y.trace ≡ with_entry x.trace e
  pub held : y.held ≡ entered x.held e
  pub came : (t : Ts) → has (came_with x.memory.requested e) t ≡ true → has y.memory.requested t ≡ true

-- all that is held is as it was, and each transaction that came counts as one that did
pub record StaysSo (x y : Repository) : Type 0 where
  pub trace : y.trace ≡ x.trace
  pub held : y.held ≡ x.held
  pub came : (t : Ts) → has x.memory.requested t ≡ true → has y.memory.requested t ≡ true

-- what is recovered: all as it was, or with the entry that was being written
abbrev pub IsRecoveredFrom : Base → Repository → Repository → Type 0
IsRecoveredFrom b x y = StaysSo x y ⊎ ((e : Entry) × EntryIsRecovered b x e y)

-- A restart: what is recovered, without some decisions of earlier runs, and a Life.
pub record Restarts (b : Base) (x y : Repository) : Type 0 where
  pub recovered : Repository
  pub dropped : Contents
  pub life : ℕ
  pub taken : IsRecoveredFrom b x recovered
  pub go : EarlierGo b recovered.held.table dropped
  pub begins : EntryComes b (record recovered { held = record recovered.held { table = dropped } }) (Life life) y

-- an event
pub data Event : Type 0 where
  Enters : Entry → Event
  Marks : Mark → Event
  Flushes : Event
  Restart : Event

-- what it does
abbrev pub Does : Base → Repository → Event → Repository → Type 0
Does b x (Enters e) y = EntryComes b x e y
Does b x (Marks m) y = MarkComes b x m y
Does b x Flushes y = ObjectsMove x y
Does b x Restart y = Restarts b x y

-- a repository comes from another by some events, one behind the other
abbrev pub Runs : Base → Repository → List Event → Repository → Type 0
Runs b x [] y = y ≡ x
Runs b x (e ∷ es) y = (z : Repository) × Does b x e z × Runs b z es y

-- What is recovered at an opening says what the base says: no transaction of another repository is left prepared, and
-- those that this one coordinates end with its Life.
pub record CanBegin (b : Base) (h : Held) : Type 0 where
  pub repo : h.repo ≡ b.repo
  pub life : h.life ≡ b.life
  pub count : h.count ≡ b.count
  pub threshold : h.threshold ≡ b.top
  pub upgrades : h.upgrades ≡ b.texts
  pub sorted : IsSorted h.table.transactions
  pub others : (t : Ts) → t.repo ≢ b.repo → open_at h.table t ≡ None
  pub kept : (t : Ts) → b.life < t.life → keeps (get h.table.transactions t) ≡ false
  pub alone : h.table.alone ≡ b.alone
  pub left : (t : Ts) → get b.left t ≡ None
  pub next : h.next_grant ≡ b.next_page
  pub pages : h.next_page ≤ h.next_grant
