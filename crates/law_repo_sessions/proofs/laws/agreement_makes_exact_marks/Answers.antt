use Rattle.law_repo_sessions.proofs.Answering.{connected_exact, fetched_exact, taken_exact}
use Rattle.law_repo_sessions.proofs.laws.agreement_makes_exact_marks.Goals as goal

pub returns : goal.returns
returns c = record { connected = connected_exact; fetched = fetched_exact; taken = taken_exact }
