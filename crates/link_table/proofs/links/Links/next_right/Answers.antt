use Rattle.link_table.proofs.Kept.{distinct_rights, next_right_is}
use Rattle.link_table.proofs.Lists.{goes_on}
use Rattle.link_table.proofs.links.Links.next_right.Goals as goal
use Rattle.link_table.specs.States.{state_of}
use Rattle.std.proofs.Common.{◌∙◌}

pub returns-clause-value : goal.returns-clause-value
returns-clause-value c = rw (← c.self.view_is) (c.next_right.ensures ∙ next_right_is (state_of c.self.inside.table) c.args.left c.args.after c.self.invariant)

pub returns-clause-goes_on : goal.returns-clause-goes_on
returns-clause-goes_on c = rw (← c.self.view_is) (λ done rest e f. c.next_right.ensures ∙ next_right_is (state_of c.self.inside.table) c.args.left c.args.after c.self.invariant ∙ goes_on _ (distinct_rights (state_of c.self.inside.table) c.args.left c.self.invariant) c.args.after done rest e f)

pub returns-clause-distinct : goal.returns-clause-distinct
returns-clause-distinct c = rw (← c.self.view_is) (distinct_rights (state_of c.self.inside.table) c.args.left c.self.invariant)
