use Rattle.law_repo_memory.proofs.Exactness.{comes-exact, decided-exact}
use Rattle.law_repo_memory.proofs.mark_laws.entries_are_exact.Goals as goal

pub returns : goal.returns
returns c = record { request = comes-exact; decided = decided-exact }
