use Rattle.law_cache_coherence.proofs.Showing.{may_decide, may_finish, may_prepare}
use Rattle.law_cache_coherence.proofs.conditions.shown_calls_may_come.Goals as goal

pub returns : goal.returns
returns c = record { prepare = may_prepare; decide = may_decide; finish = may_finish }
