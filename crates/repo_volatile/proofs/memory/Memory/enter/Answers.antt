use Rattle.repo_sessions.specs.Sessions.{Kept}
use Rattle.std.proofs.Common.{ap, ◌∙◌, ◌≡◌}
use Rattle.repo_volatile.proofs.Lasting.{counted}
use Rattle.repo_volatile.proofs.memory.Memory.enter.Goals as goal
use Rattle.repo_volatile.specs.Volatile.{Memory}

pub returns-in_err-add-clause-lasts : goal.returns-in_err-add-clause-lasts
returns-in_err-add-clause-lasts c =
    let is = c.self.view_is ∙ c.in_ok-count.ensures.ok in
    counted _ _ c.args.request.now.tx (ap (λ (m : Memory). m.requested) is) (ap (λ (m : Memory). m.sessions.last) is)

pub returns-clause-lasts : goal.returns-clause-lasts
returns-clause-lasts c =
    let is = c.self.view_is ∙ c.in_ok-count.ensures.ok in
    counted _ _ c.args.request.now.tx (ap (λ (m : Memory). m.requested) is) (ap (λ (k : Kept). k.last) c.acknowledge.ensures ∙ ap (λ (m : Memory). m.sessions.last) is)
