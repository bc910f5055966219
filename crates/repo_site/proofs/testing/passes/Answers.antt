use Rattle.repo_site.proofs.Finding.{gone_tested, tested_so}
use Rattle.std.proofs.Common.{sym, ◌∙◌}
use Rattle.repo_site.proofs.testing.passes.Goals as goal

pub returns-in-Some : goal.returns-in-Some
returns-in-Some g c = λ t. tested_so c.args.repo.now c.args.repos c.args.session c.args.request.now (c.is_tested.ensures t)

pub returns-in-None : goal.returns-in-None
returns-in-None g c = λ t. gone_tested c.args.repo.now c.args.repos c.args.session c.args.request.now (sym c.client_of.ensures ∙ c.in-None.is)
