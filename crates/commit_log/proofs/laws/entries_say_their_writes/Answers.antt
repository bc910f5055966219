use Rattle.commit_log.proofs.ValueLaws.{entry_says_its_writes}
use Rattle.commit_log.proofs.laws.entries_say_their_writes.Goals as goal

pub returns : goal.returns
returns c = entry_says_its_writes
