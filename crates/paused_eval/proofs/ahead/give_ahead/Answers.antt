use Rattle.std.proofs.Common.{Ok, Err, ◌∙◌}
use Rattle.lang_small_steps.specs.declared.frames.Doing.TheVariants as doing
use Rattle.paused_eval.specs.Copies.{at_hand, whole_state}
use Rattle.paused_eval.proofs.Hands.{same_hands}
use Rattle.paused_eval.proofs.Standing.{same_objects}
use Rattle.paused_eval.proofs.ahead.give_ahead.Goals as goal

pub returns-in-Err-clause-goes : goal.returns-in-Err-clause-goes
returns-in-Err-clause-goes g c = λ tx given count n runs.
    let s = c.args.program.now.schema.now in
    same_objects s (at_hand s c.args.cache.now) (at_hand s c.loop.cache) tx given count (doing.Give c.loop.next) c.loop.stack c.give_once.new.stack
    (whole_state c.loop.machine c.loop.cache n) (whole_state c.give_once.new.machine c.give_once.new.cache n) (Err c.in-Err.halt)
    (same_hands s c.args.cache.now c.loop.cache c.loop.invariant.1.0) (c.in-Err.ensures.goes tx given count n)
    (c.loop.invariant.1.1.1.1 tx given count n runs)

pub returns-in-Ok-clause-goes : goal.returns-in-Ok-clause-goes
returns-in-Ok-clause-goes g c = λ tx given count n runs.
    let s = c.args.program.now.schema.now in
    same_objects s (at_hand s c.args.cache.now) (at_hand s c.loop.cache) tx given count (doing.Give c.loop.next) c.loop.stack c.give_once.new.stack
    (whole_state c.loop.machine c.loop.cache n) (whole_state c.give_once.new.machine c.give_once.new.cache n) (Ok c.in-Ok.doing)
    (same_hands s c.args.cache.now c.loop.cache c.loop.invariant.1.0) (c.in-Ok.ensures.goes tx given count n)
    (c.loop.invariant.1.1.1.1 tx given count n runs)

pub loop-preserved : goal.loop-preserved
loop-preserved g c =
    let s = c.args.program.now.schema.now in (
      c.in-Ok-Give.ensures.tied,
      (
        (λ x. c.in-Ok-Give.ensures.kept x ∙ c.loop.invariant.1.0 x),
        (
          c.give_once.ensures.known,
          (
            c.in-Ok-Give.ensures.work ∙ c.loop.invariant.1.1.1.0,
            (λ tx given count n runs. same_objects s (at_hand s c.args.cache.now) (at_hand s c.loop.cache) tx given count (doing.Give c.loop.next) c.loop.stack c.give_once.new.stack
                (whole_state c.loop.machine c.loop.cache n) (whole_state c.give_once.new.machine c.give_once.new.cache n) (Ok (doing.Give c.in-Ok-Give.then))
                (same_hands s c.args.cache.now c.loop.cache c.loop.invariant.1.0) (λ r. rw c.in-Ok-Give.field-0-is at (c.in-Ok-Give.ensures.goes tx given count n r))
                (c.loop.invariant.1.1.1.1 tx given count n runs)),
          ),
        ),
      ),
    )
