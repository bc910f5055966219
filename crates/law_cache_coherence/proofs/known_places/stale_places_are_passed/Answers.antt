use Rattle.law_cache_coherence.proofs.Places.{not_again, stale_is_passed}
use Rattle.law_cache_coherence.proofs.known_places.stale_places_are_passed.Goals as goal

pub returns : goal.returns
returns c = record { passed = stale_is_passed; again = not_again }
