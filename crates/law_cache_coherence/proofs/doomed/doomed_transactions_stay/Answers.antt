use Rattle.law_cache_coherence.proofs.Uncommitted.{grown_on}
use Rattle.law_cache_coherence.proofs.UncommittedCalls.{acted}
use Rattle.law_cache_coherence.proofs.doomed.doomed_transactions_stay.Goals as goal

pub returns-clause-growth : goal.returns-clause-growth
returns-clause-growth c = grown_on

pub returns-clause-calls : goal.returns-clause-calls
returns-clause-calls c = λ old new t committed a other seen d. acted old new t committed seen d a other
