use Rattle.repo_sessions.proofs.Told.{told_upgrade}
use Rattle.repo_sessions.proofs.sessions.Sessions.tell_upgrade.Goals as goal
use Rattle.std.proofs.Common.{refl}
use Rattle.std.proofs.lemmas.Result.{on_ok_weaker}

pub returns-clause-news : goal.returns-clause-news
returns-clause-news c =
    rw (← c.self.view_is) (on_ok_weaker c.retire_all.result (λ rest. told_upgrade _ _ _ c.args.number c.args.text.now c.args.place c.in_ok-silent.silent.items (record { clients = refl; live = refl; retired = refl; last = refl }) c.in_ok-silent.ensures c.send_upgrade.ensures.order c.in_ok-send_upgrade.ensures.sent rest) c.retire_all.ensures.ok)
