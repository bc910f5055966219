use Rattle.law_repo_memory.proofs.Exactness.{drew-exact, granted-exact}
use Rattle.law_repo_memory.proofs.mark_laws.marks_are_exact.Goals as goal

pub returns : goal.returns
returns c = record { drew = drew-exact; granted = granted-exact }
