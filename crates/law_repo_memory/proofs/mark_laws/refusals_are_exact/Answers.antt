use Rattle.law_repo_memory.proofs.Exactness.{buffer-exact, clock-exact, gone-exact, pages-exact, request-exact}
use Rattle.law_repo_memory.proofs.mark_laws.refusals_are_exact.Goals as goal

pub returns : goal.returns
returns c = record { request = request-exact; buffer = buffer-exact; gone = gone-exact; pages = pages-exact; clock = clock-exact }
