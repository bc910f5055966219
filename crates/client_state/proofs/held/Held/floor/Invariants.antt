use Rattle.client_state.proofs.held.Held.floor.Given as goal
use Rattle.client_state.specs.Links.{unsettled_time}
use Rattle.client_state.specs.declared.link.Link.{Link}
use Rattle.std.specs.Prelude.{Some, slice_get, ℕ, ◌<◌, ◌≡◌, ◌≤◌}

abbrev pub invariant-loop-link : goal.invariant-loop-link
invariant-loop-link l = (l.fn.self.floor ≤ l.floor) × ((r : ℕ) (x : Link) → r < l.link-index → slice_get l.fn.self.links.items r ≡ Some x → unsettled_time x ≤ l.floor)
