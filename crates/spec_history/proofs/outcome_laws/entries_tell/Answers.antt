use Rattle.spec_history.proofs.Telling.{tell}
use Rattle.spec_history.proofs.outcome_laws.entries_tell.Goals as goal

pub returns : goal.returns
returns c = tell
