use Rattle.law_cache_coherence.proofs.Whole.{commit_all, prepare_all}
use Rattle.law_cache_coherence.proofs.whole_calls.refusals_keep_all_links.Goals as goal

pub returns : goal.returns
returns c = record { commit_one = commit_all; prepare = prepare_all }
