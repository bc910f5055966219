use Rattle.law_cache_coherence.proofs.Sending.{alone, shared}
use Rattle.law_cache_coherence.proofs.conditions.sent_requests_continue.Goals as goal

pub returns : goal.returns
returns c = record { prepare = shared; commit_one = alone }
