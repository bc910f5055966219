use Rattle.law_cache_coherence.proofs.Reasons.{drawn_above, told_above, unsettled_above}
use Rattle.law_cache_coherence.proofs.refusals.drawn_timestamps_are_above.Goals as goal

pub returns : goal.returns
returns c = record { drawn = drawn_above; told = told_above; unsettled = unsettled_above }
