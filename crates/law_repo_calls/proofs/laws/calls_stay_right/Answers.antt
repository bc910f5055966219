use Rattle.law_repo_calls.proofs.Restarts.{stands_on}
use Rattle.law_repo_calls.proofs.laws.calls_stay_right.Goals as goal

pub returns : goal.returns
returns c = record { right = stands_on; is = λ b x k. k.right }
