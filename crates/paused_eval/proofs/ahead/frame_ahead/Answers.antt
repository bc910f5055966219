use Rattle.std.proofs.Common.{◌∷◌, Ok, Err}
use Rattle.method_eval.specs.Names.{supply}
use Rattle.lang_small_steps.specs.declared.frames.Doing.TheVariants as doing
use Rattle.paused_eval.specs.Copies.{at_hand, state, whole_state}
use Rattle.paused_eval.proofs.Directly.{move_goes}
use Rattle.paused_eval.proofs.Hands.{same_hands}
use Rattle.paused_eval.proofs.Standing.{same_objects}
use Rattle.paused_eval.proofs.ahead.frame_ahead.Goals as goal

pub returns-in-Ok-clause-goes : goal.returns-in-Ok-clause-goes
returns-in-Ok-clause-goes g c = λ tx given count n runs.
    let s = c.args.program.now.schema.now in
    same_objects s (at_hand s c.args.cache.now) (at_hand s c.resume.new.cache) tx given count c.in-Ok.doing c.resume.new.stack c.part_ahead.new.stack
    (whole_state c.resume.new.machine c.resume.new.cache n) (whole_state c.part_ahead.new.machine c.part_ahead.new.cache n) c.part_ahead.result
    (same_hands s c.args.cache.now c.resume.new.cache c.in-Ok.ensures.kept) (c.part_ahead.ensures.goes tx given count n)
    (move_goes s (at_hand s c.args.cache.now) tx given count (supply n) (doing.Give c.args.flow) (c.args.frame ∷ c.args.stack.now) c.resume.new.stack
    (state c.args.machine.now c.args.cache.now) (state c.resume.new.machine c.resume.new.cache) (Ok c.in-Ok.doing) tt tt c.in-Ok.ensures.does runs)

pub returns-in-Err-clause-goes : goal.returns-in-Err-clause-goes
returns-in-Err-clause-goes g c = λ tx given count n runs.
    let s = c.args.program.now.schema.now in
    move_goes s (at_hand s c.args.cache.now) tx given count (supply n) (doing.Give c.args.flow) (c.args.frame ∷ c.args.stack.now) c.resume.new.stack
    (state c.args.machine.now c.args.cache.now) (state c.resume.new.machine c.resume.new.cache) (Err c.in-Err.halt) tt tt c.in-Err.ensures.does runs
