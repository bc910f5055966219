use Rattle.law_cache_coherence.proofs.Learned.{fewer_fit}
use Rattle.law_cache_coherence.proofs.learning.fewer_copies_fit.Goals as goal

pub returns : goal.returns
returns c = fewer_fit
