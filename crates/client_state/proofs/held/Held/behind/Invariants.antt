use Rattle.client_state.proofs.held.Held.behind.Given as goal
use Rattle.client_state.specs.Links.{NoneIsBehind}

abbrev pub invariant-loop-repo : goal.invariant-loop-repo
invariant-loop-repo l = NoneIsBehind l.repo l.epoch l.self.links.items
