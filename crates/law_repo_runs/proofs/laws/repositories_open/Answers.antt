use Rattle.law_repo_runs.proofs.Steps.{opens}
use Rattle.law_repo_runs.proofs.laws.repositories_open.Goals as goal

pub returns : goal.returns
returns c = opens
