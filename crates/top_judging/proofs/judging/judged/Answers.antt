use Rattle.std.proofs.Common.{refl}
use Rattle.top_judging.proofs.judging.judged.Goals as goal

pub judged_on-requires-clause-made : goal.judged_on-requires-clause-made
judged_on-requires-clause-made c = c.if-not-are_made.ensures.0 refl
