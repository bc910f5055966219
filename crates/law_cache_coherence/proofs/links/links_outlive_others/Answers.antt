use Rattle.law_cache_coherence.proofs.Linked.{outlives}
use Rattle.law_cache_coherence.proofs.links.links_outlive_others.Goals as goal

pub returns : goal.returns
returns c = outlives
