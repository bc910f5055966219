use Rattle.std.proofs.Common.{◌≡◌}
use Rattle.repo_core.proofs.writing.load_open.Given as goal
use Rattle.law_repo_memory.specs.Coming.{ReopensTo}

-- the requests up to one are in the queue where they stay undecided, and no session begins or ends
abbrev pub invariant-loop : goal.invariant-loop
invariant-loop l = record { sessions : l.memory.sessions ≡ l.fn.memory.sessions; requested : l.memory.requested ≡ l.fn.memory.requested; to : ReopensTo l.repo l.table l.fn.memory l.memory l.after }
