use Rattle.law_repo_calls.proofs.Marked.{fetch_runs}
use Rattle.law_repo_calls.proofs.calls.fetch.Goals as goal

pub returns : goal.returns
returns g c = λ b within. fetch_runs b c.args.repo.now c.fetch.new.self c.args.session c.args.page c.args.upto c.fetch.result within c.fetch.ensures.stands c.fetch.ensures.live c.fetch.ensures.held c.fetch.ensures.limit c.fetch.ensures.sent c.fetch.ensures.trace c.fetch.ensures.refused c.fetch.ensures.left c.fetch.ensures.opened
