use Rattle.std.proofs.Common.{◌+◌, Err, Ok, arith, ◌∙◌, sym}
use Rattle.paused_eval.proofs.Hands.{same_hands}
use Rattle.paused_eval.proofs.Standing.{ends, fault_ends, faults, goes, same_objects, waits}
use Rattle.paused_eval.specs.Copies.{Keeps, at_hand, whole_state}
use Rattle.paused_eval.proofs.running.run.Goals as goal

pub returns-then-is_ended-clause-answers : goal.returns-then-is_ended-clause-answers
returns-then-is_ended-clause-answers g c = λ tx given stands.
    let s = c.args.program.now.schema.now in
    ends s (at_hand s c.args.cache.now) tx given c.loop.counter c.in-Ok.then c.ahead.new.stack (whole_state c.ahead.new.machine c.ahead.new.cache c.loop.names) (sym c.is_ended.ensures ∙ c.if-is_ended.true)
    (same_objects s (at_hand s c.args.cache.now) (at_hand s c.loop.cache) tx given c.loop.counter c.loop.doing c.loop.stack c.ahead.new.stack
    (whole_state c.loop.machine c.loop.cache c.loop.names) (whole_state c.ahead.new.machine c.ahead.new.cache c.loop.names) (Ok c.in-Ok.then)
    (same_hands s c.args.cache.now c.loop.cache c.loop.invariant.1.0) (c.in-Ok.ensures.goes tx given c.loop.counter c.loop.names) (c.loop.invariant.1.1.1.1.1 tx given stands))

pub returns-in-Ok-Waits-clause-answers : goal.returns-in-Ok-Waits-clause-answers
returns-in-Ok-Waits-clause-answers g c = λ tx given stands.
    let s = c.args.program.now.schema.now in
    let kept : Keeps c.args.cache.now c.ahead.new.cache = λ x. c.in-Ok.ensures.kept x ∙ c.loop.invariant.1.0 x in
    waits s (at_hand s c.args.cache.now) tx given (at_hand s c.ahead.new.cache) c.loop.counter c.in-Ok.then _ c.ahead.new.stack c.small.new.stack _ _ _
    (same_hands s c.args.cache.now c.ahead.new.cache kept)
    (same_objects s (at_hand s c.args.cache.now) (at_hand s c.loop.cache) tx given c.loop.counter c.loop.doing c.loop.stack c.ahead.new.stack
    (whole_state c.loop.machine c.loop.cache c.loop.names) (whole_state c.ahead.new.machine c.ahead.new.cache c.loop.names) (Ok c.in-Ok.then)
    (same_hands s c.args.cache.now c.loop.cache c.loop.invariant.1.0) (c.in-Ok.ensures.goes tx given c.loop.counter c.loop.names) (c.loop.invariant.1.1.1.1.1 tx given stands))
    (rw c.in-Ok-Waits.field-0-is at c.in-Ok-Waits.ensures.does)

pub returns-in-Ok-WaitsForName-clause-answers : goal.returns-in-Ok-WaitsForName-clause-answers
returns-in-Ok-WaitsForName-clause-answers g c = λ tx given stands.
    let s = c.args.program.now.schema.now in
    let kept : Keeps c.args.cache.now c.ahead.new.cache = λ x. c.in-Ok.ensures.kept x ∙ c.loop.invariant.1.0 x in
    waits s (at_hand s c.args.cache.now) tx given (at_hand s c.ahead.new.cache) c.loop.counter c.in-Ok.then _ c.ahead.new.stack c.small.new.stack _ _ _
    (same_hands s c.args.cache.now c.ahead.new.cache kept)
    (same_objects s (at_hand s c.args.cache.now) (at_hand s c.loop.cache) tx given c.loop.counter c.loop.doing c.loop.stack c.ahead.new.stack
    (whole_state c.loop.machine c.loop.cache c.loop.names) (whole_state c.ahead.new.machine c.ahead.new.cache c.loop.names) (Ok c.in-Ok.then)
    (same_hands s c.args.cache.now c.loop.cache c.loop.invariant.1.0) (c.in-Ok.ensures.goes tx given c.loop.counter c.loop.names) (c.loop.invariant.1.1.1.1.1 tx given stands))
    (rw c.in-Ok-WaitsForName.field-0-is at c.in-Ok-WaitsForName.ensures.does)

pub returns-in-Err-small-clause-answers : goal.returns-in-Err-small-clause-answers
returns-in-Err-small-clause-answers g c = λ tx given stands.
    let s = c.args.program.now.schema.now in
    let kept : Keeps c.args.cache.now c.ahead.new.cache = λ x. c.in-Ok.ensures.kept x ∙ c.loop.invariant.1.0 x in
    faults s (at_hand s c.args.cache.now) tx given (at_hand s c.ahead.new.cache) c.loop.counter c.in-Ok.then c.ahead.new.stack c.small.new.stack _ _ c.in_ok-came-in-Err-small.came c.in-Err-small.halt _
    (same_hands s c.args.cache.now c.ahead.new.cache kept)
    (same_objects s (at_hand s c.args.cache.now) (at_hand s c.loop.cache) tx given c.loop.counter c.loop.doing c.loop.stack c.ahead.new.stack
    (whole_state c.loop.machine c.loop.cache c.loop.names) (whole_state c.ahead.new.machine c.ahead.new.cache c.loop.names) (Ok c.in-Ok.then)
    (same_hands s c.args.cache.now c.loop.cache c.loop.invariant.1.0) (c.in-Ok.ensures.goes tx given c.loop.counter c.loop.names) (c.loop.invariant.1.1.1.1.1 tx given stands))
    c.in_ok-came-in-Err-small.ensures c.in-Err-small.ensures.does

pub returns-in-Err-clause-answers : goal.returns-in-Err-clause-answers
returns-in-Err-clause-answers g c = λ tx given stands.
    let s = c.args.program.now.schema.now in
    fault_ends s (at_hand s c.args.cache.now) tx given c.loop.counter c.in_ok-came-in-Err.came c.in-Err.halt c.ahead.new.stack
    (whole_state c.ahead.new.machine c.ahead.new.cache c.loop.names) _ c.in_ok-came-in-Err.ensures
    (same_objects s (at_hand s c.args.cache.now) (at_hand s c.loop.cache) tx given c.loop.counter c.loop.doing c.loop.stack c.ahead.new.stack
    (whole_state c.loop.machine c.loop.cache c.loop.names) (whole_state c.ahead.new.machine c.ahead.new.cache c.loop.names) (Err c.in-Err.halt)
    (same_hands s c.args.cache.now c.loop.cache c.loop.invariant.1.0) (c.in-Err.ensures.goes tx given c.loop.counter c.loop.names) (c.loop.invariant.1.1.1.1.1 tx given stands))

pub loop-preserved : goal.loop-preserved
loop-preserved g c =
    let s = c.args.program.now.schema.now in
    let kept : Keeps c.args.cache.now c.ahead.new.cache = λ x. c.in-Ok.ensures.kept x ∙ c.loop.invariant.1.0 x in (
      c.in-Ok-To.ensures.tied,
      (
        (λ x. c.in-Ok-To.ensures.kept x ∙ kept x),
        (
          c.small.ensures.names,
          (
            c.small.ensures.known,
            (
              c.in-Ok-To.ensures.work ∙ c.in-Ok.ensures.work ∙ c.loop.invariant.1.1.1.1.0,
              (λ tx given stands. goes s (at_hand s c.args.cache.now) tx given (at_hand s c.ahead.new.cache) c.loop.counter c.in-Ok.then _ c.ahead.new.stack c.small.new.stack _ _
                  (same_hands s c.args.cache.now c.ahead.new.cache kept) (sym c.is_ended.ensures ∙ c.if-is_ended.false)
                  (same_objects s (at_hand s c.args.cache.now) (at_hand s c.loop.cache) tx given c.loop.counter c.loop.doing c.loop.stack c.ahead.new.stack
                  (whole_state c.loop.machine c.loop.cache c.loop.names) (whole_state c.ahead.new.machine c.ahead.new.cache c.loop.names) (Ok c.in-Ok.then)
                  (same_hands s c.args.cache.now c.loop.cache c.loop.invariant.1.0) (c.in-Ok.ensures.goes tx given c.loop.counter c.loop.names) (c.loop.invariant.1.1.1.1.1 tx given stands))
                  (rw c.in-Ok-To.field-0-is at c.in-Ok-To.ensures.does)),
            ),
          ),
        ),
      ),
    )

pub returns-clause-answers : goal.returns-clause-answers
returns-clause-answers g c = λ tx given stands.
    let h = (c.loop.invariant.1.1.1.1.1 tx given stands).few in
    absurd (omega (arith, h, c.loop-test.false, c.loop.auto.counter-end))
