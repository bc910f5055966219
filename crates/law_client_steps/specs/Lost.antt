-- A session that a client has lost, and what it has learnt (this project's).
use Rattle.client_state.specs.Calling.{is_session_of}
use Rattle.client_state.specs.Learning.{Rises}
use Rattle.client_state.specs.declared.held.Held.{Held}
use Rattle.law_client_steps.specs.Runs.{Moment}
use Rattle.spec_trace.specs.Calls.{last_session}
use Rattle.std.specs.List.{slice_get}
use Rattle.std.specs.Prelude.{List, [], false, ℕ, ◌∷◌, ◌≡◌, ◌≤◌}

-- The number of the session was given by the repository, and the client's link there isn't in it.
pub record HasLost (r s : ℕ) (m : Moment) : Type 0 where
  pub given : s ≤ last_session (m.port.seen r)
  pub gone : is_session_of s (slice_get m.held.links.items r) ≡ false

-- One behind another of what a client holds, neither the time above which it draws falls, nor the epoch that it has learnt of.
abbrev pub AllRise : Held → List Held → Held → Type 0
AllRise a [] z = Rises a z
AllRise a (h ∷ hs) z = Rises a h × AllRise h hs z
