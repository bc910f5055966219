use Rattle.law_cache_coherence.proofs.Naming.{all_named}
use Rattle.law_cache_coherence.proofs.known_places.named_objects_were_written.Goals as goal

pub returns : goal.returns
returns c = λ b T s v is x k t. all_named b s T v is t.at t.names k t.message x t.named
