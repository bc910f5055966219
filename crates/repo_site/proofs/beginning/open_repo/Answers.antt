use Rattle.repo_site.proofs.Opened.{opened_in}
use Rattle.repo_site.proofs.beginning.open_repo.Goals as goal

pub returns-clause-stands : goal.returns-clause-stands
returns-clause-stands g c = opened_in g.O.Opening.run c.args.number c.args.repos c.args.recovered.state _ c.open.result c.requires.begins c.open.ensures.up c.open.ensures.trace c.open.ensures.begins
