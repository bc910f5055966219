use Rattle.law_repo_calls.proofs.Decisions.{finish_runs}
use Rattle.law_repo_calls.proofs.calls.finish.Goals as goal

pub returns : goal.returns
returns g c = λ b k elsewhere counted. finish_runs b c.args.repo.now c.finish.new.self c.args.verdict.now c.finish.result k elsewhere counted c.finish.ensures.stands c.finish.ensures.held c.finish.ensures.limit c.finish.ensures.memory c.finish.ensures.tells c.finish.ensures.same c.finish.ensures.trace c.finish.ensures.refused c.finish.ensures.left c.finish.ensures.opened
