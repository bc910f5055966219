use Rattle.spec_trace.proofs.OwnExample.{current, right}
use Rattle.spec_trace.proofs.told_examples.own_write_examples.Goals as goal

pub returns-clause-current : goal.returns-clause-current
returns-clause-current c = current

pub returns-clause-right : goal.returns-clause-right
returns-clause-right c = right
