use Rattle.law_cache_coherence.proofs.Falls.{induction, never}
use Rattle.law_cache_coherence.proofs.falling.falling_ends.Goals as goal
use Rattle.std.proofs.Common.{true, ◌≡◌}

pub returns : goal.returns
returns c = record { induction = λ holds step l. induction (λ k. holds k ≡ true) step l; never = never }
