-- What calls do to a repository that is up: they make an entry or a mark, move objects, or meet a fault.
use Rattle.log_entries.specs.declared.entry.Entry.TheVariants.{Decided, Finished, Life, One, Prepared, Upgraded}
use Rattle.log_entries.specs.declared.entry.Entry.{Entry}
use Rattle.log_entries.specs.declared.request.Request.{Request}
use Rattle.repo_state.specs.Entering.{entered}
use Rattle.repo_state.specs.declared.held.Held.{Held}
use Rattle.repo_sessions.specs.Sessions.{Kept, acknowledged, begun, is_live, sent, has_session, taken}
use Rattle.spec_history.specs.History.{Base, epoch_of}
use Rattle.spec_history.specs.Participants.{IsAlone, IsShared}
use Rattle.spec_history.specs.Requests.{is_upgrade}
use Rattle.session_outbox.specs.Messages.{first, place_of}
use Rattle.session_outbox.specs.Outbox.{waiting}
use Rattle.session_outbox.specs.declared.message.Message.TheVariants.{Grant, Page}
use Rattle.session_outbox.specs.declared.message.Message.{Message}
use Rattle.law_repo_memory.specs.Agreeing.{state_of, trace_of}
use Rattle.law_repo_memory.specs.Coming.{Moves}
use Rattle.law_repo_memory.specs.Judging.{IsAccepted, IsVouched}
use Rattle.law_repo_memory.specs.Running.{MarkComes, Repository}
use Rattle.spec_trace.specs.Calls.{drawn_time}
use Rattle.spec_trace.specs.Exact.{WritesOnPages, most_pages}
use Rattle.spec_trace.specs.Session.{session}
use Rattle.spec_trace.specs.declared.mark.Mark.TheVariants as the
use Rattle.spec_trace.specs.declared.mark.Mark.{Mark}
use Rattle.std.specs.Map.{keys_of}
use Rattle.std.specs.Option.{IsSomeAnd}
use Rattle.std.specs.Prelude.{List, None, Option, Some, false, length, true, ℕ, ◌+◌, ◌<◌, ◌^◌, ◌≡◌, ◌≢◌, ◌≤◌, ◌⊎◌}
use Rattle.thor_value.specs.declared.names.Ts.{Ts}
use Rattle.repo_trace.specs.Recorded.{with_entry}
use Rattle.two_phase.specs.Contents.{open_at}
use Rattle.validation_queue.specs.Names.{IsInOrder}
use Rattle.repo_refusals.specs.Refusals.{bytes_of}
use Rattle.base_reasons.specs.declared.reason.Reason.TheVariants as reasons
use Rattle.repo_refusals.specs.declared.refusal.Refusal.TheVariants as refused
use Rattle.repo_refusals.specs.declared.refusal.Refusal.{Refusal}
use Rattle.repo_volatile.specs.Telling.{CommitTold, TellsDecided}
use Rattle.repo_volatile.specs.Volatile.{Outlasts, verdict}

-- ---- entries

-- A request comes that is accepted by what is in memory, and it owes nothing by itself: its sender is the session's client
-- and knows no place that isn't there, and what it writes stands on pages that were granted and that its session has.
pub record RequestIsMade (b : Base) (x : Repository) (q : Request) : Type 0 where
  pub accepted : IsAccepted b x.trace x.held x.memory q.session q
  pub vouched : IsVouched b x.trace x.held q
  pub client : IsSomeAnd (session b (trace_of x.trace) q.session) (λ v. v.client ≡ q.who.client)
  pub upto : q.upto ≤ length x.trace.history
  pub paged : WritesOnPages b (trace_of x.trace) q.session q

-- a session that hasn't ended decides what it has prepared here, and this repository coordinates it
pub record DecisionIsMade (b : Base) (x : Repository) (t : Ts) : Type 0 where
  pub request : Request
  pub prepared : open_at x.held.table t ≡ Some request
  pub unended : has_session x.memory.sessions request.session ≡ true
  pub here : t.repo ≡ b.repo

-- the decision on what is prepared here is learnt from another repository
pub record DecisionIsLearnt (b : Base) (x : Repository) (t : Ts) : Type 0 where
  pub request : Request
  pub prepared : open_at x.held.table t ≡ Some request
  pub elsewhere : t.repo ≢ b.repo

-- What the call of an entry has found, and what its caller vouches for. A Life is written by restarts alone.
abbrev pub MayMake : Base → Repository → Entry → Type 0
MayMake b x (Life n) = ⊥
MayMake b x (One q) = RequestIsMade b x q × IsAlone b q × (is_upgrade q ≡ false)
MayMake b x (Prepared q) = RequestIsMade b x q × IsShared q
MayMake b x (Decided t c) = DecisionIsMade b x t
MayMake b x (Finished t c) = DecisionIsLearnt b x t
MayMake b x (Upgraded q) = RequestIsMade b x q × IsAlone b q × (is_upgrade q ≡ true)

-- What sessions are told of an entry at a place, where h is held before it. Its client knows what it acknowledges.
abbrev pub Tells : Held → Kept → ℕ → Entry → Kept → Type 0
Tells h before place (Life n) after = ⊥
Tells h before place (One q) after = CommitTold (acknowledged before q.session q.upto) after q (length h.upgrades + 1) place
Tells h before place (Prepared q) after = after ≡ acknowledged before q.session q.upto
Tells h before place (Decided t c) after = TellsDecided before after (length h.upgrades + 1) place c (open_at h.table t)
Tells h before place (Finished t c) after = TellsDecided before after (length h.upgrades + 1) place c (open_at h.table t)
Tells h before place (Upgraded q) after = CommitTold (acknowledged before q.session q.upto) after q (length h.upgrades + 1) place

-- objects moved, from the buffer to their pages or into memory
abbrev pub MovesObjects : Held → Held → Type 0
MovesObjects old new = new ≡ record old { objects = new.objects }

-- an entry is made, behind objects that have moved
pub record EntryIsMade (b : Base) (x : Repository) (e : Entry) (y : Repository) : Type 0 where
  pub may : MayMake b x e
  pub trace : y.trace ≡ with_entry x.trace e
  pub between : Held
  pub moves : MovesObjects x.held between
  pub held : y.held ≡ entered between e
  pub memory : Moves x.held x.memory e y.memory
  pub tells : Tells x.held x.memory.sessions (length x.trace.history) e y.memory.sessions

-- ---- marks

-- a draw or a grant of the session s is refused so
abbrev pub CallRefused : Repository → ℕ → Refusal → Type 0
CallRefused x s r =
    ((r ≡ refused.Reason (reasons.Gone s)) × (is_live x.memory.sessions s ≡ false))
    ⊎ ((r ≡ refused.Reason (reasons.Full most_pages)) × (is_live x.memory.sessions s ≡ true) × (most_pages ≤ x.held.next_grant))
    ⊎ ((r ≡ (refused.Reason reasons.ClockEnd)) × (is_live x.memory.sessions s ≡ true) × ((now : ℕ) × (floor : ℕ) × (2 ^ 62 ≤ drawn_time now x.memory.drawn floor)))

-- a request is refused so: by the first refusal that holds, or, where none does, by the buffer
abbrev pub RequestRefused : Base → Repository → Request → Refusal → Type 0
RequestRefused b x q r =
    IsInOrder q.ros (keys_of q.writes)
    × ((verdict x.memory (epoch_of (state_of b x.trace)) q.session q ≡ Some r)
    ⊎ ((verdict x.memory (epoch_of (state_of b x.trace)) q.session q ≡ None) × (r ≡ refused.Reason (reasons.Full b.limit)) × (b.limit < bytes_of q)))

abbrev pub WasRefused : Base → Repository → ℕ → Option Request → Refusal → Type 0
WasRefused b x s None r = CallRefused x s r
WasRefused b x s (Some q) r = (q.session ≡ s) × RequestRefused b x q r

-- what the call of a mark has found, and what becomes of the sessions
abbrev pub MayMark : Base → Repository → Mark → Kept → Type 0
MayMark b x (the.Connected s client) K = (s ≡ x.memory.sessions.last + 1) × (s < 2 ^ 32) × (K ≡ begun x.memory.sessions client s)
MayMark b x (the.Fetched s page upto) K =
    (is_live x.memory.sessions s ≡ true)
    × (upto ≤ length x.trace.history)
    × ((bytes : List ℕ) × (K ≡ acknowledged (sent x.memory.sessions s page (Page page bytes (length x.trace.history))) s upto))
MayMark b x (the.Granted s page) K =
    (is_live x.memory.sessions s ≡ true)
    × (x.held.next_grant < most_pages)
    × (K ≡ sent x.memory.sessions s page (Grant page (length x.trace.history)))
MayMark b x (the.Took s place) K =
    (is_live x.memory.sessions s ≡ true)
    × ((m : Message) × (first (waiting x.memory.sessions.waiting s) ≡ Some m) × (place ≡ place_of m))
    × (K ≡ taken x.memory.sessions s)
MayMark b x (the.Drew s t) K =
    (is_live x.memory.sessions s ≡ true)
    × (x.memory.drawn < t.time) × (t.time < 2 ^ 62) × (t.repo ≡ x.held.repo) × (t.life ≡ x.held.life)
    × (K ≡ x.memory.sessions)
MayMark b x (the.Forgot t) K = K ≡ x.memory.sessions
MayMark b x (the.Refused s q r) K = WasRefused b x s q r × (K ≡ x.memory.sessions)

-- a mark is made; a decision that is forgotten was made here in this run (MarkComes)
pub record MarkIsMade (b : Base) (x : Repository) (m : Mark) (y : Repository) : Type 0 where
  pub comes : MarkComes b x m y
  pub may : MayMark b x m y.memory.sessions

-- a session that has no message waiting takes none
pub record TakesNothing (x y : Repository) : Type 0 where
  pub trace : y.trace ≡ x.trace
  pub held : y.held ≡ x.held
  pub session : ℕ
  pub none : first (waiting x.memory.sessions.waiting session) ≡ None
  pub memory : y.memory ≡ record x.memory { sessions = taken x.memory.sessions session }

-- ---- faults

-- it goes down, and nothing has come to its trace
pub record GoesDown (x y : Repository) : Type 0 where
  pub trace : y.trace ≡ x.trace
  pub moves : MovesObjects x.held y.held
  pub memory : Outlasts x.memory y.memory

-- what was being written is the entry of a call that may make it
abbrev pub WasMaking : Base → Repository → Option Entry → Type 0
WasMaking b x None = Unit {0}
WasMaking b x (Some e) = MayMake b x e
