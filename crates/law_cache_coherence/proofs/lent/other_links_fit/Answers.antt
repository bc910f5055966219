use Rattle.law_cache_coherence.proofs.Elsewhere.{elsewhere_fit}
use Rattle.law_cache_coherence.proofs.Lending.{others_fit}
use Rattle.law_cache_coherence.proofs.lent.other_links_fit.Goals as goal

pub returns : goal.returns
returns c = record { called = others_fit; acts = elsewhere_fit }
