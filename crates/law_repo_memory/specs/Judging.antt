-- What a repository answers by its memory, and by its history.
use Rattle.cached_sets.specs.Invalid.{set_of}
use Rattle.log_entries.specs.declared.request.Request.{Request}
use Rattle.repo_sessions.specs.Sessions.{Kept, is_live, has_session}
use Rattle.spec_history.specs.History.{Base, epoch_of}
use Rattle.spec_history.specs.Sound.{Vouches}
use Rattle.law_repo_memory.specs.Agreeing.{state_of}
use Rattle.repo_state.specs.declared.held.Held.{Held}
use Rattle.spec_trace.specs.Notices.{lives, is_unended}
use Rattle.spec_trace.specs.Session.{Session, invalid, session, session_lives}
use Rattle.spec_trace.specs.Trace.{Item, entries}
use Rattle.std.specs.List.{AllByRecursion}
use Rattle.std.specs.Map.{keys_of}
use Rattle.std.specs.Prelude.{List, None, Some, false, true, ℕ, ◌<◌, ◌≡◌, ◌≤◌}
use Rattle.thor_value.specs.FiniteMap.{get, has}
use Rattle.thor_value.specs.declared.names.Oref.{Oref}
use Rattle.repo_trace.specs.Recorded.{Recorded}
use Rattle.validation_queue.specs.Names.{IsInOrder}
use Rattle.repo_refusals.specs.Refusals.{bytes_of}
use Rattle.repo_volatile.specs.Volatile.{Memory, knows, verdict}

-- What verdicts and decisions look at of the sessions that are kept: which are live, which haven't ended, and the invalid
-- sets of the live ones.
pub record SessionsAnswer (b : Base) (T : List Item) (K : Kept) : Type 0 where
  pub live : (s : ℕ) → is_live K s ≡ lives (session b T s)
  pub unended : (s : ℕ) → has_session K s ≡ is_unended (session b T s)
  pub invalid : (s : ℕ) (v : Session) (x : Oref) → session b T s ≡ Some v → session_lives v ≡ true → get (set_of K.sets.invalid s) x ≡ invalid b (entries T) s v x

-- The request q of the session s is accepted, by what is in memory: no refusal stands against it, its transaction isn't
-- known, and the buffer can hold what it writes.
pub record IsAccepted (b : Base) (r : Recorded) (h : Held) (M : Memory) (s : ℕ) (q : Request) : Type 0 where
  pub in_order : IsInOrder q.ros (keys_of q.writes)
  pub verdict : verdict M (epoch_of (state_of b r)) s q ≡ None
  pub fits : bytes_of q ≤ b.limit
  pub unknown : knows M q.tx ≡ false
  pub unkept : has h.table.transactions q.tx ≡ false

-- What it owes by itself to the state, and that it writes on pages that were granted.
pub record IsVouched (b : Base) (r : Recorded) (h : Held) (q : Request) : Type 0 where
  pub vouched : Vouches b (state_of b r) q
  pub granted : AllByRecursion (λ w. w.0.page < h.next_grant) q.writes
