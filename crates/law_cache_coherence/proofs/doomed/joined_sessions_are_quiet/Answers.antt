use Rattle.law_cache_coherence.proofs.Beginning.{joined_quiet}
use Rattle.law_cache_coherence.proofs.doomed.joined_sessions_are_quiet.Goals as goal

pub returns : goal.returns
returns c = joined_quiet
