use Rattle.law_two_phase_clients.proofs.Taken.{comes, forgets}
use Rattle.law_two_phase_clients.proofs.forgetting.forgotten_verdicts_were_taken.Goals as goal

pub returns : goal.returns
returns c = record { comes = comes; forgets = forgets }
