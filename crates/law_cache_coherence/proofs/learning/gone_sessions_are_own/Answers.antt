use Rattle.law_cache_coherence.proofs.Places.{gone_is_own}
use Rattle.law_cache_coherence.proofs.learning.gone_sessions_are_own.Goals as goal

pub returns : goal.returns
returns c = gone_is_own
