use Rattle.law_cache_coherence.proofs.OwnVerdicts.{others_told, own_told}
use Rattle.law_cache_coherence.proofs.verdicts.verdicts_keep_all_links.Goals as goal

pub returns : goal.returns
returns c = record { others = others_told; own = own_told }
