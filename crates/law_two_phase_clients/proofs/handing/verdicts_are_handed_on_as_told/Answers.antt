use Rattle.law_two_phase_clients.proofs.Telling.{comes, hands}
use Rattle.law_two_phase_clients.proofs.handing.verdicts_are_handed_on_as_told.Goals as goal

pub returns : goal.returns
returns c = record { comes = comes; hands = hands }
