use Rattle.law_cache_coherence.proofs.Uncommitted.{decide_nothing}
use Rattle.law_cache_coherence.proofs.outcomes.others_decide_nothing.Goals as goal

pub returns : goal.returns
returns c = decide_nothing
