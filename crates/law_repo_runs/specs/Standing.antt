-- How a repository stands: up, down until a restart, or down for good; and when that is as its trace says.
use Rattle.cached_sets.specs.Noted.{most_noted}
use Rattle.log_entries.specs.declared.entry.Entry.TheVariants.{Decided, Finished, Life, One, Prepared, Upgraded}
use Rattle.log_entries.specs.declared.entry.Entry.{Entry}
use Rattle.log_entries.specs.declared.request.Request.{Request}
use Rattle.repo_state.specs.declared.held.Held.{Held}
use Rattle.spec_history.specs.History.{Base}
use Rattle.spec_history.specs.Sound.{owes, sound}
use Rattle.law_repo_memory.specs.Agreeing.{HeldAgrees, state_of, trace_of}
use Rattle.law_repo_memory.specs.Running.{IsInAgreement, Repository}
use Rattle.law_repo_sessions.specs.Agreeing.{SessionsAgree}
use Rattle.spec_trace.specs.Calls.{last_session}
use Rattle.spec_trace.specs.Exact.{EntryIsExact, exact}
use Rattle.spec_trace.specs.Session.{session}
use Rattle.spec_trace.specs.Trace.{IsTrace, Item}
use Rattle.std.specs.List.{AllByRecursion}
use Rattle.std.specs.Option.{IfSome, IsSome}
use Rattle.std.specs.Prelude.{List, None, Option, Some, false, length, ℕ, ◌<◌, ◌≡◌}
use Rattle.thor_value.specs.FiniteMap.{has}
use Rattle.repo_trace.specs.Recorded.{Recorded}
use Rattle.two_phase.specs.Contents.{Contents, open_at}

-- Whether a repository answers.
pub data Phase : Type 0 where
  Up : Phase
  -- down until a restart, with the entry that was being written, which its disks may have or not
  Down : Option Entry → Phase
  -- down, and what is held is no state of its log, so that it doesn't come up again
  Torn : Phase

-- What of the sessions outlives a restart: no session has a greater number than the last one.
pub record NumbersAgree (b : Base) (T : List Item) (n : ℕ) : Type 0 where
  pub silence : b.silence ≡ Some most_noted
  pub last : n ≡ last_session T
  pub unused : (s : ℕ) → n < s → session b T s ≡ None

-- A request isn't in the table, and writes on pages that were granted.
pub record RequestFits (c : Contents) (next : ℕ) (q : Request) : Type 0 where
  pub unkept : has c.transactions q.tx ≡ false
  pub granted : AllByRecursion (λ w. w.0.page < next) q.writes

-- an entry fits to a table, where the page next is granted next
abbrev pub EntryFits : Contents → ℕ → Entry → Type 0
EntryFits c next (Life n) = Unit {0}
EntryFits c next (One q) = RequestFits c next q
EntryFits c next (Prepared q) = RequestFits c next q
EntryFits c next (Decided t d) = IsSome (open_at c t)
EntryFits c next (Finished t d) = IsSome (open_at c t)
EntryFits c next (Upgraded q) = RequestFits c next q

-- An entry may come next: it owes nothing, it is exact, and it fits to what is held.
pub record MayBeNext (b : Base) (r : Recorded) (h : Held) (e : Entry) : Type 0 where
  pub owes : owes b (state_of b r) e
  pub exact : EntryIsExact b (trace_of r) e
  pub fits : EntryFits h.table h.next_grant e

-- What is recorded is the trace of a sound history, which has begun, and each of its items is exact.
pub record IsRecorded (b : Base) (r : Recorded) : Type 0 where
  pub trace : IsTrace r.history r.marks
  pub sound : sound b r.history
  pub exact : exact b (trace_of r)
  pub begun : 0 < length r.history

-- While it is up, all that is in memory says what the trace says. While it is down, what a restart takes of it does so, and
-- the pending entry may come next.
abbrev pub Stands : Base → Repository → Phase → Type 0
Stands b x Up = IsInAgreement b x × SessionsAgree b (trace_of x.trace) x.memory.sessions
Stands b x (Down pending) =
    HeldAgrees b x.trace x.held x.memory.requested
    × NumbersAgree b (trace_of x.trace) x.memory.sessions.last
    × IfSome pending (MayBeNext b x.trace x.held)
Stands b x Torn = Unit {0}

-- The repository is as its trace says, and its trace owes nothing.
pub record IsRight (b : Base) (x : Repository) (p : Phase) : Type 0 where
  pub recorded : IsRecorded b x.trace
  pub stands : Stands b x p
