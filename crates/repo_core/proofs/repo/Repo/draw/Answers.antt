use Rattle.std.specs.Prelude.{None}
use Rattle.repo_core.proofs.Refused.{leaves_on, why_refused}
use Rattle.repo_core.specs.Calls.{DrawIsRefused}
use Rattle.repo_core.proofs.repo.Repo.draw.Goals as goal

pub returns-in-Err-clause-why : goal.returns-in-Err-clause-why
returns-in-Err-clause-why g c =
    why_refused (DrawIsRefused c.args.self.now.memory c.args.session c.args.floor) c.args.self.now.is_up c.in-Err.refusal c.refuse.result c.in_ok-check_up.ensures.up c.refuse.ensures.same c.in-Err.ensures.why

pub returns-in-Err-clause-left : goal.returns-in-Err-clause-left
returns-in-Err-clause-left g c = leaves_on c.args.self.now c.may_draw.new.self c.refuse.new.self None c.refuse.result c.in_ok-check_up.ensures.up c.may_draw.ensures.rests (c.refuse.ensures.left None)
