use Rattle.law_repo_calls.proofs.Formatting.{formatted_right}
use Rattle.law_repo_calls.proofs.calls.format.Goals as goal

pub returns : goal.returns
returns g c = λ b base. formatted_right b c.args.repo c.args.repos c.args.setup.now c.args.mob _ c.format.result base c.format.ensures.up c.format.ensures.trace c.format.ensures.begins
