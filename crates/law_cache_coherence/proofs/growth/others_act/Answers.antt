use Rattle.law_cache_coherence.proofs.Growing.{grown}
use Rattle.law_cache_coherence.proofs.growth.others_act.Goals as goal

pub returns : goal.returns
returns c = λ client b committed kept u w T S g k sd a h. grown client b committed kept u w T S g k sd a h
