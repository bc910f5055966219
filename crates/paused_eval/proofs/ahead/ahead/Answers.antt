use Rattle.lang_small_steps.specs.declared.frames.Doing.TheVariants as doing
use Rattle.std.proofs.Common.{Ok}
use Rattle.paused_eval.specs.Copies.{at_hand, whole_state}
use Rattle.paused_eval.proofs.Hands.{same_hands}
use Rattle.paused_eval.proofs.Standing.{same_objects}
use Rattle.paused_eval.proofs.ahead.ahead.Goals as goal

pub returns-in-Ok-Give-clause-goes : goal.returns-in-Ok-Give-clause-goes
returns-in-Ok-Give-clause-goes g c = λ tx given count n runs.
    let s = c.args.program.now.schema.now in
    same_objects s (at_hand s c.args.cache.now) (at_hand s c.part_ahead.new.cache) tx given count (doing.Give c.in-Ok-Give.flow) c.part_ahead.new.stack c.give_ahead.new.stack
    (whole_state c.part_ahead.new.machine c.part_ahead.new.cache n) (whole_state c.give_ahead.new.machine c.give_ahead.new.cache n) c.give_ahead.result
    (same_hands s c.args.cache.now c.part_ahead.new.cache c.in-Ok-Give.ensures.kept) (c.give_ahead.ensures.goes tx given count n)
    (rw c.in-Ok-Give.field-0-is at (c.in-Ok-Give.ensures.goes tx given count n runs))
