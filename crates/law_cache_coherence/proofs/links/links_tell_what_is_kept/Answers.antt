use Rattle.law_cache_coherence.proofs.Linked.{tells_gone, tells_took}
use Rattle.law_cache_coherence.proofs.links.links_tell_what_is_kept.Goals as goal
use Rattle.std.proofs.Common.{refl}

pub returns : goal.returns
returns c = record { took = λ m s upto waits copies low. tells_took m s upto waits copies (λ news. low); waiting = λ s upto waits what copies. refl; gone = tells_gone }
