use Rattle.law_repo_calls.proofs.Stepping.{runs_still}
use Rattle.law_repo_calls.proofs.calls.disarm.Goals as goal

pub returns : goal.returns
returns g c = λ b. runs_still b c.args.repo.now c.disarm.new.self c.disarm.ensures.held c.disarm.ensures.memory c.disarm.ensures.pending c.disarm.ensures.torn c.disarm.ensures.trace c.disarm.ensures.up c.disarm.ensures.opened
