use Rattle.std.proofs.Common.{◌<◌, arith}
use Rattle.lang_bounded_eval.proofs.SmallSteps.{tests_on}
use Rattle.lang_bounded_eval.specs.SmallSteps.{frames}
use Rattle.lang_bounded_eval.proofs.giving.turned.Goals as goal

pub returns-in_ok-take_step-in-Next : goal.returns-in_ok-take_step-in-Next
returns-in_ok-take_step-in-Next c =
    let some : 0 < c.args.turns = omega (arith, c.if-turns-eq0.false) in
    tests_on c.evaluate_for.result c.evaluate_for.new.stack (frames c.args.stack.now) c.args.inner c.args.turns c.args.condition.now c.args.body.now c.args.flow c.args.machine.now c.take_step.new.machine
    c.in_ok-take_step-in-Next.field-0 c.in-Next.is some c.in_ok-take_step-in-Next.ensures (c.evaluate_for.ensures c.take_step.new.machine)
