use Rattle.method_eval.specs.Names.{supply}
use Rattle.lang_small_steps.specs.declared.limits.TheConstants.{RECURSION_LIMIT}
use Rattle.paused_eval.specs.Copies.{at_hand, state}
use Rattle.paused_eval.proofs.Directly.{rest_goes}
use Rattle.paused_eval.proofs.ahead.rest_ahead.Goals as goal

pub returns-clause-goes : goal.returns-clause-goes
returns-clause-goes g c = λ tx given count n runs.
    let s = c.args.program.now.schema.now in
    rest_goes s (at_hand s c.args.cache.now) tx given count (supply n) RECURSION_LIMIT c.args.nested c.args.rest c.args.flow c.args.stack.now c.resumed.new.stack
    (state c.args.machine.now c.args.cache.now) (state c.rest_unless_returned-came.new.machine c.rest_unless_returned-came.new.cache) c.rest_unless_returned-came.result c.resumed.result
    c.rest_unless_returned-came.ensures.does c.resumed.ensures runs
