use Rattle.law_repo_memory.proofs.Answering.{session-answers}
use Rattle.law_repo_memory.proofs.verdict_laws.sessions_answer.Goals as goal

pub returns : goal.returns
returns c = session-answers
