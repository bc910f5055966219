use Rattle.link_table.proofs.Kept.{distinct_lefts}
use Rattle.link_table.proofs.links.Links.lefts_are_apart.Goals as goal
use Rattle.link_table.specs.States.{state_of}

pub returns : goal.returns
returns c = rw (← c.self.view_is) (λ right. distinct_lefts (state_of c.self.inside.table) right c.self.invariant)
