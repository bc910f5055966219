use Rattle.spec_history.proofs.Mended.{order}
use Rattle.spec_history.proofs.history_examples.mended_example.Goals as goal

pub returns-clause-order : goal.returns-clause-order
returns-clause-order c = order
