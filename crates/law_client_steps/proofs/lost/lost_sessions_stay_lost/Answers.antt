use Rattle.law_client_steps.proofs.Losing.{called_lost, ever_lost, learnt_lost}
use Rattle.law_client_steps.proofs.lost.lost_sessions_stay_lost.Goals as goal

pub returns : goal.returns
returns c = record { request = learnt_lost; call = called_lost; ever = ever_lost }
