use Rattle.client_state.proofs.Writing.{at_between}
use Rattle.front_end.proofs.client.Client.end_try.Goals as goal

pub returns-clause-writes : goal.returns-clause-writes
returns-clause-writes c = at_between _ _ c.end_phase.ensures.phase
