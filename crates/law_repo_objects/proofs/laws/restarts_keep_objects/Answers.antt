use Rattle.law_repo_objects.proofs.Following.{restarts}
use Rattle.law_repo_objects.proofs.laws.restarts_keep_objects.Goals as goal

pub returns : goal.returns
returns c = restarts
