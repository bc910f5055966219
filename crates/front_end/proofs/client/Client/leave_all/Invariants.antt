use Rattle.client_state.specs.Learning.{KeepsBounds}
use Rattle.client_state.specs.Moving.{LeavesLess}
use Rattle.client_state.specs.Written.{PartsSome}
use Rattle.front_end.proofs.client.Client.leave_all.Given as goal
use Rattle.std.specs.Prelude.{◌≡◌}

-- what is held changes alone, and neither its floor nor the epoch that was learnt; some repositories were left
abbrev pub invariant-loop-repo : goal.invariant-loop-repo
invariant-loop-repo l = (l.self ≡ record l.fn.self { held = l.self.held }) × KeepsBounds l.fn.self.held l.self.held × LeavesLess l.fn.self.held l.self.held × PartsSome l.fn.self.held l.self.held
