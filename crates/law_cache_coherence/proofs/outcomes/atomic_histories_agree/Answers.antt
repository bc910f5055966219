use Rattle.law_cache_coherence.proofs.Telling.{agrees}
use Rattle.law_cache_coherence.proofs.outcomes.atomic_histories_agree.Goals as goal

pub returns : goal.returns
returns c = agrees
