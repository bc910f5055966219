use Rattle.law_cache_coherence.proofs.AnySession.{decided_by_any}
use Rattle.law_cache_coherence.proofs.verdicts.decided_links_fit.Goals as goal

pub returns : goal.returns
returns c = decided_by_any
