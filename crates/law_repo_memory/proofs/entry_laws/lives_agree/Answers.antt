use Rattle.law_repo_memory.proofs.Entries.{agrees-life}
use Rattle.law_repo_memory.proofs.entry_laws.lives_agree.Goals as goal

pub returns : goal.returns
returns c = agrees-life
