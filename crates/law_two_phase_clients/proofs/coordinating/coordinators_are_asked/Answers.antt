use Rattle.law_two_phase_clients.proofs.Coordinators.{stays, told}
use Rattle.law_two_phase_clients.proofs.coordinating.coordinators_are_asked.Goals as goal

pub returns : goal.returns
returns c = record { stays = stays; told = told }
