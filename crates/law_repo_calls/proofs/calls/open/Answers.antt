use Rattle.law_repo_calls.proofs.Restarts.{opened_right}
use Rattle.law_repo_calls.proofs.calls.open.Goals as goal

pub returns : goal.returns
returns g c = λ b base. opened_right b c.args.recovered.state _ c.open.result base c.open.ensures.up c.open.ensures.trace c.open.ensures.begins
