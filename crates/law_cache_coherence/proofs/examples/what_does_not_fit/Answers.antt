use Rattle.law_cache_coherence.proofs.Fits.{early, late, newer, other, stale}
use Rattle.law_cache_coherence.proofs.examples.what_does_not_fit.Goals as goal

pub returns : goal.returns
returns c = record { kept = stale; early = early; late = late; other = other; newer = newer }
