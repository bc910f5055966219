use Rattle.client_state.proofs.held.Held.awaited.Given as goal
use Rattle.client_state.specs.Links.{NoneAwaits}

abbrev pub invariant-loop-repo : goal.invariant-loop-repo
invariant-loop-repo l = NoneAwaits l.repo l.self.links.items
