use Rattle.law_repo_sessions.proofs.Answering.{live_answer, live_there, next_message, stale_none, stale_request, unended_answer}
use Rattle.law_repo_sessions.proofs.laws.agreement_answers.Goals as goal

pub returns : goal.returns
returns c = record { live = live_answer; unended = unended_answer; there = live_there; stale = stale_request; not_stale = stale_none; message = next_message }
