use Rattle.law_client_steps.proofs.Calls.{step_fits}
use Rattle.law_client_steps.proofs.steps.moving_clients_fit.Goals as goal

pub returns : goal.returns
returns c = step_fits
