use Rattle.paused_eval.proofs.Counting.{as_many}
use Rattle.paused_eval.proofs.Ending.{on_ok}
use Rattle.paused_eval.proofs.paused.Paused.go_counted.Goals as goal

pub returns-clause-work : goal.returns-clause-work
returns-clause-work g c = on_ok c.go_with-ran.result _ _ (λ h. as_many _ _ _ _ h) c.go_with-ran.ensures.work
