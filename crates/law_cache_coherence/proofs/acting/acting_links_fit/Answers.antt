use Rattle.law_cache_coherence.proofs.Stepping.{all_fit}
use Rattle.law_cache_coherence.proofs.acting.acting_links_fit.Goals as goal

pub returns : goal.returns
returns c = λ old new acts committed before after copies left seen stay there fit. all_fit old new acts committed before after copies left seen stay (λ r is within h. there r is h) fit
