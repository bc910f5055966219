use Rattle.client_state.proofs.Carrying.{Carried}
use Rattle.client_state.proofs.transaction.Transaction.carry_sessions.Given as goal
use Rattle.std.specs.Prelude.{◌≡◌}

-- the shares below the place name their sessions, and the others stand as they stood
abbrev pub invariant-loop-place : goal.invariant-loop-place
invariant-loop-place l = (l.self ≡ record l.fn.self { shares = l.self.shares }) × Carried l.fn.links l.place l.fn.self.shares.items l.self.shares.items
