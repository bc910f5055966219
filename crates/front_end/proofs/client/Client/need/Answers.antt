use Rattle.client_state.proofs.Writing.{nothing_unsent}
use Rattle.front_end.proofs.client.Client.need.Goals as goal

pub returns-in_err-obj-clause-writes : goal.returns-in_err-obj-clause-writes
returns-in_err-obj-clause-writes g c = λ none. nothing_unsent _ _ none
