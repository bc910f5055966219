use Rattle.law_repo_memory.proofs.Running.{mark-comes, objects-moved}
use Rattle.law_repo_memory.proofs.mark_laws.marks_agree.Goals as goal

pub returns : goal.returns
returns c = record { marked = mark-comes; moved = objects-moved }
