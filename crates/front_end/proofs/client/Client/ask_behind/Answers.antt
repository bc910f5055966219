use Rattle.client_state.proofs.Writing.{nothing_unsent}
use Rattle.front_end.proofs.client.Client.ask_behind.Goals as goal

pub returns-in-NoMemory-clause-writes : goal.returns-in-NoMemory-clause-writes
returns-in-NoMemory-clause-writes c = λ none. nothing_unsent _ _ none
