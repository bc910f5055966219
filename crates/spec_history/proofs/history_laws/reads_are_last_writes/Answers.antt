use Rattle.spec_history.proofs.LastWrite.{reads_last}
use Rattle.spec_history.proofs.history_laws.reads_are_last_writes.Goals as goal

pub returns : goal.returns
returns c = reads_last
