use Rattle.spec_trace.proofs.Ending.{ended_for_a_cause}
use Rattle.spec_trace.proofs.item_laws.sessions_end_for_a_cause.Goals as goal

pub returns : goal.returns
returns c = λ b T s v h. ended_for_a_cause b T s v h
