use Rattle.commit_log.proofs.ValueLaws.{migrated_says_the_same}
use Rattle.commit_log.proofs.laws.migrations_say_the_same.Goals as goal

pub returns : goal.returns
returns c = migrated_says_the_same
