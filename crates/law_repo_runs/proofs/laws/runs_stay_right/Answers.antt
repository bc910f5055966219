use Rattle.law_repo_runs.proofs.Steps.{does, runs}
use Rattle.law_repo_runs.proofs.laws.runs_stay_right.Goals as goal

pub returns : goal.returns
returns c = record { event = λ b x y p q e k d. does b x y p q k e d; run = runs }
