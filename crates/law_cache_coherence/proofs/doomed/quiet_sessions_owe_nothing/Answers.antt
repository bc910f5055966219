use Rattle.law_cache_coherence.proofs.Beginning.{doomed_uncommitted, owes_nothing}
use Rattle.law_cache_coherence.proofs.doomed.quiet_sessions_owe_nothing.Goals as goal

pub returns-clause-doomed : goal.returns-clause-doomed
returns-clause-doomed c = doomed_uncommitted

pub returns-clause-none : goal.returns-clause-none
returns-clause-none c = owes_nothing
