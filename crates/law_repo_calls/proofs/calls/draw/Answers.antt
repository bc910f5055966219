use Rattle.law_repo_calls.proofs.Marked.{draw_runs}
use Rattle.law_repo_calls.proofs.calls.draw.Goals as goal

pub returns : goal.returns
returns g c = λ b. draw_runs b c.args.repo.now c.draw.new.self c.args.session c.args.floor c.draw.result c.draw.ensures.stands c.draw.ensures.live c.draw.ensures.held c.draw.ensures.later c.draw.ensures.below c.draw.ensures.repo c.draw.ensures.life c.draw.ensures.drawn c.draw.ensures.trace c.draw.ensures.why c.draw.ensures.refused c.draw.ensures.left c.draw.ensures.opened
