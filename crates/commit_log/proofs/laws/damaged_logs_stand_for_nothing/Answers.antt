use Rattle.commit_log.proofs.Opened.{torn_none}
use Rattle.commit_log.proofs.laws.damaged_logs_stand_for_nothing.Goals as goal

pub returns : goal.returns
returns c = torn_none
