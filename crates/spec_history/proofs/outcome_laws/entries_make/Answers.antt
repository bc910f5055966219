use Rattle.spec_history.proofs.Making.{make}
use Rattle.spec_history.proofs.outcome_laws.entries_make.Goals as goal

pub returns : goal.returns
returns c = make
