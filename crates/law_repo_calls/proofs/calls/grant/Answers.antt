use Rattle.law_repo_calls.proofs.Marked.{grant_runs}
use Rattle.law_repo_calls.proofs.calls.grant.Goals as goal

pub returns : goal.returns
returns g c = λ b. grant_runs b c.args.repo.now c.grant.new.self c.args.session c.grant.result c.grant.ensures.stands c.grant.ensures.live c.grant.ensures.held c.grant.ensures.below c.grant.ensures.sent c.grant.ensures.trace c.grant.ensures.why c.grant.ensures.refused c.grant.ensures.left c.grant.ensures.opened
