use Rattle.paused_eval.proofs.Lifting.{field_moves}
use Rattle.paused_eval.proofs.small.field.Goals as goal

pub returns-clause-does : goal.returns-clause-does
returns-clause-does g c = λ fs. rw c.give.ensures (field_moves _ fs _ _ _ _ _ 0 _ c.in_ok-take_step_over.ensures.step c.field_value.ensures.value c.field_value.ensures.state)
