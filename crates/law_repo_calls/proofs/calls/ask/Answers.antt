use Rattle.law_repo_calls.proofs.Stepping.{runs_same}
use Rattle.law_repo_calls.proofs.calls.ask.Goals as goal

pub returns : goal.returns
returns g c = λ b. runs_same b c.args.repo.now c.ask.new.self c.ask.ensures.same
