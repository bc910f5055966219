use Rattle.repo_core.proofs.Refused.{why_refused}
use Rattle.repo_core.specs.Calls.{GrantIsRefused}
use Rattle.repo_core.proofs.repo.Repo.grant.Goals as goal

pub returns-in-Err-clause-why : goal.returns-in-Err-clause-why
returns-in-Err-clause-why g c =
    why_refused (GrantIsRefused c.args.self.now.held c.args.self.now.memory c.args.session) c.args.self.now.is_up c.in-Err.refusal c.refuse.result c.in_ok-check_up.ensures.up c.refuse.ensures.same c.in-Err.ensures.why
