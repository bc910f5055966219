use Rattle.commit_log.proofs.ValueLaws.{installed_says_the_same}
use Rattle.commit_log.proofs.laws.installs_say_the_same.Goals as goal

pub returns : goal.returns
returns c = installed_says_the_same
