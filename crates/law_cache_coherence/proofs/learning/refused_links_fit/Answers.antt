use Rattle.law_cache_coherence.proofs.Learned.{commit_learned, prepare_learned}
use Rattle.law_cache_coherence.proofs.learning.refused_links_fit.Goals as goal

pub returns : goal.returns
returns c = record { commit_one = commit_learned; prepare = prepare_learned }
