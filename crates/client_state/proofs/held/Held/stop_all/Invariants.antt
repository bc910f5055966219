use Rattle.client_state.proofs.Stopping.{Stops}
use Rattle.client_state.proofs.held.Held.stop_all.Given as goal
use Rattle.std.specs.Prelude.{◌≡◌}

-- the links below the place have stopped, and the others stand as they stood
abbrev pub invariant-loop-place : goal.invariant-loop-place
invariant-loop-place l = (l.self ≡ record l.fn.self { links = l.self.links }) × Stops l.place l.fn.self.links.items l.self.links.items
