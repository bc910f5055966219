use Rattle.law_client_steps.proofs.Running.{new_client}
use Rattle.law_client_steps.proofs.runs.new_clients_fit_wholly.Goals as goal

pub returns : goal.returns
returns c = new_client
