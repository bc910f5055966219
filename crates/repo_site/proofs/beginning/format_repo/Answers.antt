use Rattle.repo_site.proofs.Opened.{formatted_in}
use Rattle.repo_site.proofs.beginning.format_repo.Goals as goal

pub returns-clause-stands : goal.returns-clause-stands
returns-clause-stands g c = formatted_in g.O.Opening.run c.args.number c.args.repos c.args.setup.now c.args.mob _ c.format.result c.requires.begins c.format.ensures.up c.format.ensures.trace c.format.ensures.begins
