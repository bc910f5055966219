use Rattle.law_atomic_commit.proofs.Asked.{table-answers}
use Rattle.law_atomic_commit.proofs.asking.tables_answer_as_their_traces.Goals as goal

pub returns : goal.returns
returns c = λ b T k t own first kept alone. table-answers b T k t own first kept alone
