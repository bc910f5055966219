use Rattle.repo_refusals.proofs.Clashing.{blocks_alike, clash_alike, clash_none, names_read, refusal_alike}
use Rattle.repo_refusals.proofs.queue_laws.queues_answer_by_the_window.Goals as goal

pub returns : goal.returns
returns c = record { blocked = blocks_alike; clash = clash_alike; refusal = refusal_alike; accepted = clash_none; names = names_read }
