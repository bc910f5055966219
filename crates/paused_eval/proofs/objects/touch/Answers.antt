use Rattle.paused_eval.proofs.Lifting.{needed_so}
use Rattle.paused_eval.proofs.objects.touch.Goals as goal

pub returns-in-None-clause-stays : goal.returns-in-None-clause-stays
returns-in-None-clause-stays c = needed_so c.missing.result _ c.missing.ensures.state
