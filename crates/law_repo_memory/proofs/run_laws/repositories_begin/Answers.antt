use Rattle.law_repo_memory.proofs.Beginning.{begins}
use Rattle.law_repo_memory.proofs.run_laws.repositories_begin.Goals as goal

pub returns : goal.returns
returns c = begins
