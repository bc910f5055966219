use Rattle.law_cache_coherence.proofs.Places.{stale_was_told}
use Rattle.law_cache_coherence.proofs.known_places.stale_writes_are_told.Goals as goal

pub returns : goal.returns
returns c = stale_was_told
