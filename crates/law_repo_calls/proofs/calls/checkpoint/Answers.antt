use Rattle.law_repo_calls.proofs.Marked.{checkpoint_runs}
use Rattle.law_repo_calls.proofs.calls.checkpoint.Goals as goal

pub returns : goal.returns
returns g c = λ b k. checkpoint_runs b c.args.repo.now c.checkpoint.new.self c.checkpoint.result k c.checkpoint.ensures.stands c.checkpoint.ensures.memory c.checkpoint.ensures.trace c.checkpoint.ensures.held c.checkpoint.ensures.rests c.checkpoint.ensures.opened
