use Rattle.client_state.proofs.Pending.{stays_itself}
use Rattle.client_state.specs.Pending.{pending_in}
use Rattle.front_end.proofs.client.Client.leave_prepared.Goals as goal
use Rattle.std.proofs.Common.{inr, refl}

pub returns-in-NoMemory-clause-stays : goal.returns-in-NoMemory-clause-stays
returns-in-NoMemory-clause-stays c = stays_itself (pending_in c.args.self.now.phase) c.args.self.now.held

pub returns-in-NoMemory-clause-drawn : goal.returns-in-NoMemory-clause-drawn
returns-in-NoMemory-clause-drawn c = inr refl

pub returns-clause-drawn : goal.returns-clause-drawn
returns-clause-drawn c = c.lose_session.ensures.notes.1
