use Rattle.spec_trace.proofs.GapExample.{grows}
use Rattle.spec_trace.proofs.item_examples.growth_examples.Goals as goal

pub returns-clause-grows : goal.returns-clause-grows
returns-clause-grows c = grows
