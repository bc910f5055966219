use Rattle.method_eval.specs.Names.{supply}
use Rattle.lang_small_steps.specs.declared.limits.TheConstants.{RECURSION_LIMIT}
use Rattle.paused_eval.specs.Copies.{at_hand, state}
use Rattle.paused_eval.proofs.Directly.{call_goes}
use Rattle.paused_eval.proofs.ahead.enter_ahead.Goals as goal

pub returns-clause-goes : goal.returns-clause-goes
returns-clause-goes g c = λ tx given count n runs.
    let s = c.args.program.now.schema.now in
    call_goes s (at_hand s c.args.cache.now) tx given count (supply n) RECURSION_LIMIT c.args.nested c.args.class c.args.oref c.args.method.now c.args.arguments c.args.stack.now c.resumed.new.stack
    (state c.args.machine.now c.args.cache.now) (state c.call-came.new.machine c.call-came.new.cache) c.call-came.result c.resumed.result
    c.call-came.ensures.does (rw c.returned.ensures at c.resumed.ensures) runs
