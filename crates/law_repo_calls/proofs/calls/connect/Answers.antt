use Rattle.law_repo_calls.proofs.Marked.{connect_runs}
use Rattle.law_repo_calls.proofs.calls.connect.Goals as goal

pub returns : goal.returns
returns g c = λ b. connect_runs b c.args.repo.now c.connect.new.self c.args.client c.connect.result c.connect.ensures.stands c.connect.ensures.held c.connect.ensures.trace c.connect.ensures.refused c.connect.ensures.left c.connect.ensures.opened c.connect.ensures.begun c.connect.ensures.number c.connect.ensures.counted
