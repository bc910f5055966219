use Rattle.law_cache_coherence.proofs.Lending.{connected}
use Rattle.law_cache_coherence.proofs.lent.connecting_links_fit.Goals as goal

pub returns : goal.returns
returns c = connected
