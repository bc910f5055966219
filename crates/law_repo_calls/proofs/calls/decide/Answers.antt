use Rattle.law_repo_calls.proofs.Decisions.{decide_runs}
use Rattle.law_repo_calls.proofs.calls.decide.Goals as goal

pub returns : goal.returns
returns g c = λ b k here counted. decide_runs b c.args.repo.now c.decide.new.self c.args.session c.args.tx c.args.commit c.decide.result k here counted c.decide.ensures.stands c.decide.ensures.unended c.decide.ensures.held c.decide.ensures.limit c.decide.ensures.memory c.decide.ensures.tells c.decide.ensures.same c.decide.ensures.trace c.decide.ensures.refused c.decide.ensures.left c.decide.ensures.opened
