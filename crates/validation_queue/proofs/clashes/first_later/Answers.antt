use Rattle.std.proofs.Common.{ap, ◌∙◌}
use Rattle.std.specs.Map.{keys_of}
use Rattle.validation_queue.proofs.Behind.{later_behind}
use Rattle.validation_queue.proofs.clashes.first_later.Goals as goal
use Rattle.validation_queue.specs.Clashes.{comes_later, first_some}

pub loop-of-init : goal.loop-of-init
loop-of-init c =
    ap (first_some (comes_later c.args.tx c.args.ros.now (keys_of c.args.writes.now))) c.into_iter-of-iterator.ensures.into_iter_gives
    ∙ ap (first_some (comes_later c.args.tx c.args.ros.now (keys_of c.args.writes.now))) (c.range-of-items.ensures.between tt)
    ∙ later_behind c.args.tx c.args.ros.now (keys_of c.args.writes.now) c.args.members.now.entries
