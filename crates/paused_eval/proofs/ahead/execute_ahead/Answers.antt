use Rattle.method_eval.specs.Names.{supply}
use Rattle.lang_small_steps.specs.declared.limits.TheConstants.{RECURSION_LIMIT}
use Rattle.paused_eval.specs.Copies.{at_hand, state}
use Rattle.paused_eval.proofs.Directly.{statement_goes}
use Rattle.paused_eval.proofs.ahead.execute_ahead.Goals as goal

pub returns-clause-goes : goal.returns-clause-goes
returns-clause-goes g c = λ tx given count n runs.
    let s = c.args.program.now.schema.now in
    statement_goes s (at_hand s c.args.cache.now) tx given count (supply n) RECURSION_LIMIT c.args.nested c.args.stmt c.args.stack.now c.resumed.new.stack
    (state c.args.machine.now c.args.cache.now) (state c.execute-came.new.machine c.execute-came.new.cache) c.execute-came.result c.resumed.result
    (rw c.get.ensures at c.execute-came.ensures.does) c.resumed.ensures runs
