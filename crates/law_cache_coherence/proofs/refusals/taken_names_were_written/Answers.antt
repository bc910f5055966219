use Rattle.law_cache_coherence.proofs.Reasons.{write_seen}
use Rattle.law_cache_coherence.proofs.refusals.taken_names_were_written.Goals as goal

pub returns : goal.returns
returns c = write_seen
