use Rattle.law_repo_calls.proofs.Marked.{forget_runs}
use Rattle.law_repo_calls.proofs.calls.forget.Goals as goal

pub returns : goal.returns
returns g c = λ b was. forget_runs b c.args.repo.now c.forget.new.self c.args.tx c.forget.result was c.forget.ensures.stands c.forget.ensures.memory c.forget.ensures.held c.forget.ensures.trace c.forget.ensures.refused c.forget.ensures.left c.forget.ensures.opened
