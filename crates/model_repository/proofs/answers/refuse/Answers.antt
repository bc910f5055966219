use Rattle.std.proofs.Common.{[], ap, ◌∙◌, ◌∷◌}
use Rattle.model_repository.proofs.ByReading.{with_added}
use Rattle.model_repository.proofs.answers.refuse.Goals as goal
use Rattle.spec_trace.specs.Trace.{M}
use Rattle.spec_trace.specs.declared.mark.Mark.{Mark}

pub returns : goal.returns
returns g c = λ is. with_added is c.marked.result _ _ c.marked.ensures.answer (c.marked.ensures.trace ∙ ap (λ (m : Mark). M m ∷ []) c.in_ok-mark.ensures)
