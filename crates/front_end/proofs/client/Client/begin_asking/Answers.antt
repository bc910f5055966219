use Rattle.client_state.proofs.Writing.{nothing_unsent}
use Rattle.client_state.specs.Pending.{pending_in}
use Rattle.client_state.specs.Writing.{unsent}
use Rattle.front_end.proofs.client.Client.begin_asking.Goals as goal
use Rattle.front_end.specs.declared.client.Client.{Client}
use Rattle.std.proofs.Common.{ap}

pub returns-clause-writes : goal.returns-clause-writes
returns-clause-writes c = nothing_unsent _ _ (ap (λ (k : Client). unsent k.phase) c.set_phase.ensures)

pub returns-clause-asks : goal.returns-clause-asks
returns-clause-asks c = ap (λ (k : Client). pending_in k.phase) c.set_phase.ensures
