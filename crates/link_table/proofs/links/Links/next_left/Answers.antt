use Rattle.link_table.proofs.Kept.{distinct_lefts, next_left_is}
use Rattle.link_table.proofs.Lists.{goes_on}
use Rattle.link_table.proofs.links.Links.next_left.Goals as goal
use Rattle.link_table.specs.States.{state_of}
use Rattle.std.proofs.Common.{◌∙◌}

pub returns-clause-value : goal.returns-clause-value
returns-clause-value c = rw (← c.self.view_is) (c.next_left.ensures ∙ next_left_is (state_of c.self.inside.table) c.args.right c.args.after c.self.invariant)

pub returns-clause-goes_on : goal.returns-clause-goes_on
returns-clause-goes_on c = rw (← c.self.view_is) (λ done rest e f. c.next_left.ensures ∙ next_left_is (state_of c.self.inside.table) c.args.right c.args.after c.self.invariant ∙ goes_on _ (distinct_lefts (state_of c.self.inside.table) c.args.right c.self.invariant) c.args.after done rest e f)

pub returns-clause-distinct : goal.returns-clause-distinct
returns-clause-distinct c = rw (← c.self.view_is) (distinct_lefts (state_of c.self.inside.table) c.args.right c.self.invariant)
