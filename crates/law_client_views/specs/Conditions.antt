-- What calls ask of their client, and what the seen traces of several repositories keep together.
use Rattle.law_atomic_commit.specs.Several.{Alike, IsAtomic, Several}
use Rattle.law_board_calls.specs.Justified.{KindIsJustified}
use Rattle.law_board_calls.specs.declared.calls.CallKind.{CallKind}
use Rattle.log_entries.specs.declared.request.Request.{Request}
use Rattle.spec_history.specs.History.{state}
use Rattle.spec_history.specs.Requests.{has_written}
use Rattle.spec_history.specs.Sound.{Vouches, sound}
use Rattle.client_port.specs.Views.{View}
use Rattle.spec_trace.specs.Calls.{next_page}
use Rattle.spec_trace.specs.Exact.{WritesOnPages, exact}
use Rattle.spec_trace.specs.Gaps.{client_in}
use Rattle.spec_trace.specs.Trace.{entries}
use Rattle.std.specs.Prelude.{Some, length, true, ℕ, ◌<◌, ◌≡◌, ◌≤◌}
use Rattle.thor_value.specs.declared.names.Oref.{Oref}

-- the histories that are seen
abbrev pub seen_histories : View → Several
seen_histories port = record { repos = port.opened.repos; base = port.opened.base; history = λ r. entries (port.seen r) }

-- What is seen is so as two-phase commit keeps it.
pub record AreSeenTogether (port : View) : Type 0 where
  pub atomic : IsAtomic (seen_histories port)
  pub alike : Alike (seen_histories port)

-- Each trace that is seen is sound and exact, and together they are so as two-phase commit keeps them. The port of a client
-- that sends what its condition asks for (`MaySend`, `MayCall`) shows such traces.
pub record AreRight (port : View) : Type 0 where
  pub owed : (r : ℕ) → sound (port.opened.base r) (entries (port.seen r))
  pub kept : (r : ℕ) → exact (port.opened.base r) (port.seen r)
  pub together : AreSeenTogether port

-- the session s of the repository r is the client's
abbrev pub IsOwnSession : View → ℕ → ℕ → Type 0
IsOwnSession port r s = client_in (port.opened.base r) (port.seen r) s ≡ Some port.opened.client

-- the repository is there, and what is seen justifies a call of this kind on it
pub record MayCall (port : View) (r : ℕ) (kind : CallKind) : Type 0 where
  pub there : r < port.opened.repos
  pub shown : KindIsJustified port.seen port.opened.client r kind

-- no place is acknowledged that isn't there
abbrev pub MayFetch : View → ℕ → ℕ → Type 0
MayFetch port r upto = upto ≤ length (entries (port.seen r))

-- The request q of the session s, which is its client's, owes nothing by itself, and its client knows no place that
-- isn't there. What it writes stands on pages that were granted, and that the session has.
pub record MaySend (port : View) (r s : ℕ) (q : Request) : Type 0 where
  pub session : q.session ≡ s
  pub own : IsOwnSession port r s
  pub upto : q.upto ≤ length (entries (port.seen r))
  pub vouched : Vouches (port.opened.base r) (state (port.opened.base r) (entries (port.seen r))) q
  pub client : q.who.client ≡ port.opened.client
  pub granted : (x : Oref) → has_written q x ≡ true → x.page < next_page (port.opened.base r) (port.seen r)
  pub paged : WritesOnPages (port.opened.base r) (port.seen r) s q
