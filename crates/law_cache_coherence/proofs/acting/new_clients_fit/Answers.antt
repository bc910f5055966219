use Rattle.law_cache_coherence.proofs.Stepping.{new_fits}
use Rattle.law_cache_coherence.proofs.acting.new_clients_fit.Goals as goal

pub returns : goal.returns
returns c = new_fits
