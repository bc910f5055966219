use Rattle.law_two_phase_clients.proofs.Preparing.{prepares, sends, tried_on}
use Rattle.law_two_phase_clients.proofs.trying.tries_keep_to_two_phase_commit.Goals as goal

pub returns : goal.returns
returns c = record { sends = sends; prepares = prepares; stays = λ S r e item a sd go h. tried_on S r e sd go item a h }
