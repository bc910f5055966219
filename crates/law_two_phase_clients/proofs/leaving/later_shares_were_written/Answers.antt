use Rattle.law_two_phase_clients.proofs.LeftShares.{sends, stays}
use Rattle.law_two_phase_clients.proofs.leaving.later_shares_were_written.Goals as goal

pub returns : goal.returns
returns c = record { sends = sends; stays = stays }
