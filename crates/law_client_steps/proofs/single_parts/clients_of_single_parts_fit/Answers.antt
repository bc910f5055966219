use Rattle.law_client_steps.proofs.PartStep.{begins, running}
use Rattle.law_client_steps.proofs.single_parts.clients_of_single_parts_fit.Goals as goal

pub returns : goal.returns
returns c = record { begins = begins; runs = running }
