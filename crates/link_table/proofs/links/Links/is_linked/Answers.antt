use Rattle.link_table.proofs.Kept.{knows}
use Rattle.link_table.proofs.links.Links.is_linked.Goals as goal
use Rattle.link_table.specs.States.{state_of}
use Rattle.std.proofs.Common.{ap, ◌∙◌}
use Rattle.std.specs.Option.{is_some}

pub returns : goal.returns
returns c = rw (← c.self.view_is) (c.is_some.ensures ∙ ap is_some c.key.ensures ∙ knows (state_of c.self.inside.table) c.args.left c.args.right c.self.invariant)
