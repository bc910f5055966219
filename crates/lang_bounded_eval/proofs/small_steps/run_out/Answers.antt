use Rattle.std.proofs.Common.{[]}
use Rattle.std.proofs.lemmas.Result.{err_from_is_err_and}
use Rattle.method_eval.specs.Viewed.{reading}
use Rattle.lang_bounded_eval.specs.SmallSteps.{left_of}
use Rattle.lang_bounded_eval.proofs.SmallSteps.{at_first, goes_on, stops}
use Rattle.lang_bounded_eval.proofs.small_steps.run_out.Goals as goal

pub loop-init : goal.loop-init
loop-init c = at_first (reading c.args.world.now) c.args.begun c.new-stack.result c.args.machine.now c.new-stack.ensures

pub returns-in_err-then : goal.returns-in_err-then
returns-in_err-then c =
    let p = err_from_is_err_and c.from_residual.result c.from_residual.ensures.1 in
    rw (p.1, p.2) (stops (reading c.args.world.now) (left_of c.args.begun []) (left_of c.loop.next c.loop.stack) c.args.machine.now c.loop.machine c.small.new.machine c.loop.counter c.in_err-then.field-0.0 c.small.new.stack c.loop.invariant c.in_err-then.ensures)

pub loop-preserved : goal.loop-preserved
loop-preserved c =
    goes_on (reading c.args.world.now) (left_of c.args.begun []) (left_of c.loop.next c.loop.stack) c.args.machine.now c.loop.machine c.small.new.machine c.loop.counter c.in-To.then c.small.new.stack
    c.loop.invariant (rw c.in-To.is at c.in_ok-then.ensures)
