use Rattle.law_cache_coherence.proofs.Quiet.{stays_quiet}
use Rattle.law_cache_coherence.proofs.doomed.quiet_sessions_stay.Goals as goal

pub returns : goal.returns
returns c = λ old new r s running committed a within seen q. stays_quiet old new r s running committed (λ n low. seen n) a within q
