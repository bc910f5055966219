use Rattle.law_cache_coherence.proofs.Working.{connected}
use Rattle.law_cache_coherence.proofs.calls.joined_clients_fit.Goals as goal

pub returns : goal.returns
returns c = connected
