use Rattle.law_cache_coherence.proofs.Learned.{learned}
use Rattle.law_cache_coherence.proofs.learning.learning_links_fit.Goals as goal

pub returns : goal.returns
returns c = learned
