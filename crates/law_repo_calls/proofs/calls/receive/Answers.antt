use Rattle.law_repo_calls.proofs.Marked.{receive_runs}
use Rattle.law_repo_calls.proofs.calls.receive.Goals as goal

pub returns : goal.returns
returns g c = λ b. receive_runs b c.args.repo.now c.receive.new.self c.args.session c.receive.result c.receive.ensures.stands c.receive.ensures.live c.receive.ensures.held c.receive.ensures.message c.receive.ensures.rest c.receive.ensures.trace c.receive.ensures.refused c.receive.ensures.left c.receive.ensures.opened
