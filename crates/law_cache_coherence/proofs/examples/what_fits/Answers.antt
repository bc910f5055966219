use Rattle.law_cache_coherence.proofs.Fits.{dropped, gone, taken, written}
use Rattle.law_cache_coherence.proofs.examples.what_fits.Goals as goal

pub returns : goal.returns
returns c = record { taken = taken; written = written; dropped = dropped; restarted = gone }
