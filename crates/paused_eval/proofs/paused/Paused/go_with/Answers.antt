use Rattle.std.proofs.Common.{ap, ◌∙◌}
use Rattle.paused_eval.proofs.Ending.{always}
use Rattle.paused_eval.proofs.Hands.{same_hands}
use Rattle.paused_eval.proofs.Standing.{steps_are}
use Rattle.paused_eval.specs.Copies.{at_hand}
use Rattle.paused_eval.specs.Counted.{surplus}
use Rattle.paused_eval.proofs.paused.Paused.go_with.Goals as goal

pub returns-clause-answers : goal.returns-clause-answers
returns-clause-answers g c = λ tx given stands.
    c.answer.ensures.answers c.args.schema.now (at_hand c.args.schema.now c.args.copies.now.cache) tx given _ c.run_over.new.names
    (c.in_ok-came.ensures.answers tx given (rw c.replace-doing.ensures.value stands))

pub returns-clause-stands : goal.returns-clause-stands
returns-clause-stands g c = λ tx given stands.
    let s = c.args.schema.now in
    rw (same_hands s c.args.copies.now.cache c.answer.new.copies.cache (λ x. c.answer.ensures.kept x ∙ c.in_ok-came.ensures.kept x), c.set_doing.ensures)
    (c.answer.ensures.stands s (at_hand s c.args.copies.now.cache) tx given _ c.run_over.new.names
    (c.in_ok-came.ensures.answers tx given (rw c.replace-doing.ensures.value stands)))

pub returns-clause-kept : goal.returns-clause-kept
returns-clause-kept g c = always c.answer.result _ (λ x. c.answer.ensures.kept x ∙ c.in_ok-came.ensures.kept x)

pub returns-clause-steps : goal.returns-clause-steps
returns-clause-steps g c = λ tx given stands.
    always c.answer.result _ (c.answer.ensures.steps ∙ steps_are c.args.schema.now (at_hand c.args.schema.now c.args.copies.now.cache) tx given _ _ _ (c.in_ok-came.ensures.answers tx given (rw c.replace-doing.ensures.value stands)))

pub returns-clause-work : goal.returns-clause-work
returns-clause-work g c = always c.answer.result _ (ap (surplus c.run_over.new.bodies.work) c.answer.ensures.steps ∙ c.in_ok-came.ensures.work)
