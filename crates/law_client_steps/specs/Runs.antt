-- A client's steps, one behind another, and what others make of its repositories between (this project's).
use Rattle.law_cache_coherence.specs.Steps.{AllSeenRight}
use Rattle.law_cache_coherence.specs.Verdicts.{OutcomesTold}
use Rattle.client_state.specs.declared.held.Held.{Held}
use Rattle.client_state.specs.Moving.{Moves}
use Rattle.law_client_steps.specs.Owed.{Owed, verdict_of}
use Rattle.client_port.specs.Growing.{Grew}
use Rattle.client_port.specs.Views.{View}
use Rattle.std.specs.Prelude.{Bool, List, None, [], ℕ, ◌<◌, ◌∷◌, ◌≡◌}
use Rattle.thor_value.specs.declared.names.Ts.{Ts}

-- What a client's port shows, what the client holds, and which transactions have committed at their coordinators.
pub record Moment : Type 0 where
  pub port : View
  pub held : Held
  pub committed : Ts → Bool

-- From one moment to the next the client has made a step, or others have acted and it holds what it held. What is seen then is
-- right.
pub data Turn (a z : Moment) : Type 0 where
  Stepped : (moves : Moves a.port z.port a.held z.held) → Owed a.port z.port a.held z.held a.committed z.committed moves
      → OutcomesTold a.port a.held.links.items (verdict_of a.port z.port a.held z.held moves) a.committed z.committed → AllSeenRight z.port z.committed → Turn a z
  Waited : z.held ≡ a.held → z.port.opened ≡ a.port.opened
      → ((r : ℕ) → r < a.port.opened.repos → Grew (a.port.opened.base r) a.port.opened.client (a.port.unsettled r) (a.port.seen r) (z.port.unsettled r) (z.port.seen r))
      → OutcomesTold a.port a.held.links.items None a.committed z.committed → AllSeenRight z.port z.committed → Turn a z

-- One moment leads to another by these between.
abbrev pub Leads : Moment → List Moment → Moment → Type 0
Leads a [] z = Turn a z
Leads a (m ∷ ms) z = Turn a m × Leads m ms z
