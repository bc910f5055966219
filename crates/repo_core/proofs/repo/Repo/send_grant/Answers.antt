use Rattle.repo_core.proofs.Refused.{if_err_on, leaves_read}
use Rattle.repo_core.specs.Shown.{Shown, shown}
use Rattle.std.proofs.Common.{refl}
use Rattle.std.specs.Prelude.{None}
use Rattle.repo_core.proofs.repo.Repo.send_grant.Goals as goal

pub returns-clause-left : goal.returns-clause-left
returns-clause-left g c =
    let i = c.self.inside in
    let x : Shown = shown g.P.Parts.disks i.stable i.memory i.trace i.opened_in in
    let y : Shown = record x { memory = c.send_grant-sent.new.self } in
    if_err_on c.mark_granted.result _ _ (λ r falls. leaves_read x c.args.self.now y c.mark_granted.new.self None r falls c.self.view_is c.requires.up refl refl c.send_grant-sent.ensures.lasts) c.mark_granted.ensures.falls
