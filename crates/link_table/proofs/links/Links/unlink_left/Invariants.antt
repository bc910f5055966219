use Rattle.link_table.proofs.links.Links.unlink_left.Given as goal
use Rattle.link_table.specs.Pairs.{rights, unlink_left}
use Rattle.std.proofs.Common.{length, ◌+◌, ◌≡◌}

abbrev pub invariant-loop-right : goal.invariant-loop-right
invariant-loop-right g l = record {
  rest : unlink_left l.self l.left ≡ unlink_left l.initial.self l.left;
  cost : l.steps + length (rights l.self l.left) ≡ l.initial.steps + length (rights l.initial.self l.left);
}

abbrev pub decreases-loop-right : goal.decreases-loop-right
decreases-loop-right g l = length (rights l.self l.left)
