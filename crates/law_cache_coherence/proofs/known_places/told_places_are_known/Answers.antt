use Rattle.law_cache_coherence.proofs.Places.{places_known}
use Rattle.law_cache_coherence.proofs.known_places.told_places_are_known.Goals as goal

pub returns : goal.returns
returns c = places_known
