use Rattle.method_eval.specs.Names.{supply}
use Rattle.lang_small_steps.specs.Reaches.{over}
use Rattle.paused_eval.specs.Copies.{at_hand}
use Rattle.paused_eval.proofs.Standing.{moved_steps, named_steps}
use Rattle.paused_eval.proofs.small.small.Goals as goal

pub returns-in-Evaluate-clause-does : goal.returns-in-Evaluate-clause-does
returns-in-Evaluate-clause-does g c = rw (c.in-Evaluate.is, c.moved_to.ensures) (moved_steps (supply c.args.names.now) _ c.evaluate.result _ c.args.stack.now c.evaluate.new.stack _ _ tt c.evaluate.ensures.does)

pub returns-in-Execute-clause-does : goal.returns-in-Execute-clause-does
returns-in-Execute-clause-does g c = rw (c.in-Execute.is, c.moved_to-in-Execute.ensures) (moved_steps (supply c.args.names.now) (over c.args.program.now.schema.now (at_hand c.args.program.now.schema.now c.args.cache.now)) c.execute_over.result _ c.args.stack.now c.execute_over.new.stack _ _ tt c.execute_over.ensures.does)

pub returns-in-Enter-clause-does : goal.returns-in-Enter-clause-does
returns-in-Enter-clause-does g c = rw c.in-Enter.is (named_steps (supply c.args.names.now) _ c.call.result _ c.args.stack.now c.call.new.stack _ _ tt c.call.ensures.does)

pub returns-in-Give-clause-does : goal.returns-in-Give-clause-does
returns-in-Give-clause-does g c = rw (c.in-Give.is, c.moved_to-in-Give.ensures) (moved_steps (supply c.args.names.now) _ c.given.result _ c.args.stack.now c.given.new.stack _ _ tt c.given.ensures.does)
