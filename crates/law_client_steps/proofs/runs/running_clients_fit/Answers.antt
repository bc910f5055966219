use Rattle.law_client_steps.proofs.Running.{running}
use Rattle.law_client_steps.proofs.runs.running_clients_fit.Goals as goal

pub returns : goal.returns
returns c = running
