use Rattle.law_cache_coherence.proofs.Reasons.{reason_seen}
use Rattle.law_cache_coherence.proofs.refusals.refusals_are_exact.Goals as goal

pub returns : goal.returns
returns c = reason_seen
