use Rattle.law_client_steps.proofs.OneCopies.{right_or_told}
use Rattle.law_client_steps.proofs.OneStep.{begins, running}
use Rattle.law_client_steps.proofs.one_repository.clients_of_one_repository_fit.Goals as goal

pub returns : goal.returns
returns c = record { begins = begins; runs = running; copies = right_or_told }
