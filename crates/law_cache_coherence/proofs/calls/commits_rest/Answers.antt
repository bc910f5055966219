use Rattle.law_cache_coherence.proofs.Resting.{rests}
use Rattle.law_cache_coherence.proofs.calls.commits_rest.Goals as goal

pub returns : goal.returns
returns c = rests
