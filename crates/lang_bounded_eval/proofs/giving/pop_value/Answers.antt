use Rattle.std.proofs.Common.{ap}
use Rattle.method_eval.specs.Viewed.{reading}
use Rattle.lang_bounded_eval.specs.SmallSteps.{frame_of, frames}
use Rattle.lang_bounded_eval.specs.declared.frames.Waiting.{Waiting}
use Rattle.lang_bounded_eval.proofs.SmallSteps.{collected}
use Rattle.lang_bounded_eval.proofs.giving.pop_value.Goals as goal

pub returns-in_ok-done-in-Arguments : goal.returns-in_ok-done-in-Arguments
returns-in_ok-done-in-Arguments c =
    collected (reading c.args.world.now) c.collect-in-Arguments.result c.collect-in-Arguments.new.stack (frames c.args.stack.now) c.args.machine.now
    c.in-Arguments.nested c.in-Arguments.kind c.in-Arguments.target c.in-Arguments.method.now c.in-Arguments.done c.in_ok-done-in-Arguments.done c.in-Arguments.rest.now (frame_of c.args.waiting) c.args.flow
    (ap (λ (f : Waiting). frame_of f) c.in-Arguments.is) c.in_ok-done-in-Arguments.ensures (c.collect-in-Arguments.ensures c.args.machine.now)
