use Rattle.repo_core.proofs.Refused.{if_err_on, leaves_read}
use Rattle.repo_core.specs.Shown.{Shown, shown}
use Rattle.std.proofs.Common.{ap, refl}
use Rattle.std.specs.Prelude.{None}
use Rattle.repo_volatile.proofs.Lasting.{stayed}
use Rattle.repo_volatile.specs.Volatile.{Memory}
use Rattle.repo_core.proofs.repo.Repo.receive.Goals as goal

pub returns-clause-left : goal.returns-clause-left
returns-clause-left g c =
    let i = c.self.inside in
    let x : Shown = shown g.P.Parts.disks i.stable i.memory i.trace i.opened_in in
    let y : Shown = record x { memory = c.take-taken.new.self } in
    if_err_on c.mark_taken.result _ _ (λ r falls. leaves_read x c.args.self.now y c.mark_taken.new.self None r falls c.self.view_is c.in_ok-check_up.ensures.up refl refl
    (stayed i.memory c.take-taken.new.self (ap (λ (m : Memory). m.requested) c.take-taken.ensures.rest) (ap (λ (m : Memory). m.sessions.last) c.take-taken.ensures.rest))) c.mark_taken.ensures.falls
