use Rattle.commit_log.proofs.ValueLaws.{buffer_is_last_write}
use Rattle.commit_log.proofs.laws.values_are_last_writes.Goals as goal

pub returns : goal.returns
returns c = buffer_is_last_write
