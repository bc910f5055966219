-- What a client's port shows, what the client holds, and what of its try's transaction is undecided, from step to step (this project's).
use Rattle.client_state.specs.Moving.{Moves}
use Rattle.client_state.specs.Pending.{Pending, PendsSo}
use Rattle.client_state.specs.declared.held.Held.{Held}
use Rattle.client_port.specs.Growing.{Grew}
use Rattle.client_port.specs.Views.{View}
use Rattle.std.specs.Prelude.{List, [], ℕ, ◌<◌, ◌∷◌, ◌≡◌}

-- What a client's port shows, what the client holds, and what of its try's transaction is undecided as far as it knows.
pub record Position : Type 0 where
  pub port : View
  pub held : Held
  pub pending : Pending

-- From one position to the next the client has made a step, which meets what is asked of it, or others have acted and it holds what it
-- held. The port shows then what is right.
pub data TurnBy (Right : View → Type 0) (Owes : (old new : View) (before after : Held) → Moves old new before after → Type 0) (a z : Position) : Type 0 where
  Stepped : (moves : Moves a.port z.port a.held z.held) → PendsSo a.port z.port a.held z.held moves a.pending z.pending → Owes a.port z.port a.held z.held moves → Right z.port → TurnBy Right Owes a z
  Waited : z.held ≡ a.held → z.pending ≡ a.pending → z.port.opened ≡ a.port.opened
      → ((r : ℕ) → r < a.port.opened.repos → Grew (a.port.opened.base r) a.port.opened.client (a.port.unsettled r) (a.port.seen r) (z.port.unsettled r) (z.port.seen r))
      → Right z.port → TurnBy Right Owes a z

-- One position leads so to another by these between.
abbrev pub LeadsBy : (Right : View → Type 0) (Owes : (old new : View) (before after : Held) → Moves old new before after → Type 0) → Position → List Position → Position → Type 0
LeadsBy Right Owes a [] z = TurnBy Right Owes a z
LeadsBy Right Owes a (p ∷ ps) z = TurnBy Right Owes a p × LeadsBy Right Owes p ps z
