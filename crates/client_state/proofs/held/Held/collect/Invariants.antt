use Rattle.client_state.proofs.held.Held.collect.Given as goal
use Rattle.client_state.specs.Learning.{KeepsBounds}
use Rattle.client_state.specs.Moving.{HoldsSame}
use Rattle.std.specs.Prelude.{◌≡◌}

abbrev pub invariant-loop : goal.invariant-loop
invariant-loop l = KeepsBounds l.fn.self l.self × HoldsSame l.fn.self l.self × (l.transform.stage ≡ l.fn.transform.stage)
