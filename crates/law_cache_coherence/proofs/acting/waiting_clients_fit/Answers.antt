use Rattle.law_cache_coherence.proofs.Stepping.{waiting_fits}
use Rattle.law_cache_coherence.proofs.acting.waiting_clients_fit.Goals as goal

pub returns : goal.returns
returns c = waiting_fits
