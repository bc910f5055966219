use Rattle.std.proofs.Common.{None}
use Rattle.paused_eval.proofs.Lifting.{never_needs}
use Rattle.paused_eval.proofs.entering.enter.Goals as goal

pub returns-clause-stays : goal.returns-clause-stays
returns-clause-stays g c = never_needs _ _ _ _ _ _ (c.open_method.ensures.opens (λ x. None))
