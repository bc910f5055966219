use Rattle.paused_eval.proofs.Hands.{same_state}
use Rattle.paused_eval.proofs.objects.use_page.Goals as goal

pub returns-clause-state : goal.returns-clause-state
returns-clause-state c = same_state c.args.machine.now c.args.cache.now c.bring_forward.new.self c.bring_forward.ensures.written c.bring_forward.ensures.changed
