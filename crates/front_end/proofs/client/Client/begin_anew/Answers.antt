use Rattle.client_state.proofs.Writing.{at_beginning}
use Rattle.front_end.proofs.client.Client.begin_anew.Goals as goal
use Rattle.front_end.specs.declared.client.Client.{Client}
use Rattle.std.proofs.Common.{ap}

pub returns-clause-writes : goal.returns-clause-writes
returns-clause-writes c = at_beginning _ _ (ap (λ (k : Client). k.phase) c.set_phase.ensures)
