use Rattle.repo_core.proofs.Refused.{leaves_given_back}
use Rattle.repo_core.specs.Shown.{Shown, shown}
use Rattle.std.proofs.Common.{ap, ◌∙◌}
use Rattle.std.specs.Prelude.{None}
use Rattle.repo_volatile.specs.Volatile.{Memory}
use Rattle.repo_core.proofs.repo.Repo.connect.Goals as goal

pub returns-in-Err-mark-clause-left : goal.returns-in-Err-mark-clause-left
returns-in-Err-mark-clause-left g c =
    let i = c.self.inside in
    let z : Shown = shown g.P.Parts.disks i.stable i.memory i.trace i.opened_in in
    leaves_given_back c.args.self.now c.begin_session.new.self c.mark.new.self z c.give_back_session.new.self None c.in-Err-mark.refusal c.in-Err-mark.ensures.falls c.self.view_is c.mark.ensures.memory c.in_ok-check_up.ensures.up c.begin_session.ensures.held
    (ap (λ (m : Memory). m.requested) c.in-Ok.ensures.begun) (ap (λ (m : Memory). m.sessions.last) c.in-Ok.ensures.begun ∙ c.in-Ok.ensures.number) c.give_back_session.ensures.requested c.give_back_session.ensures.last
