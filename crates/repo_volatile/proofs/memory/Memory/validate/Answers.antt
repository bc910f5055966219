use Rattle.cached_sets.specs.Sets as sets
use Rattle.std.proofs.Common.{Bool, Err, ap, sym, ◌∙◌, ◌≡◌}
use Rattle.validation_queue.specs.Clashes as queue
use Rattle.validation_queue.specs.Clashes.{clash}
use Rattle.validation_queue.specs.Contents.{Contents, transaction}
use Rattle.repo_volatile.proofs.Refusing.{refused_by_queue}
use Rattle.repo_volatile.proofs.memory.Memory.validate.Goals as goal
use Rattle.repo_volatile.specs.Volatile.{Memory, transaction_of}

pub returns-in-Err-clause-answer : goal.returns-in-Err-clause-answer
returns-in-Err-clause-answer c =
    let M = c.args.self.now in
    let q = c.args.request.now in
    let here : c.self.inside.queue ≡ M.queue = ap (λ (x : Memory). x.queue) c.self.view_is in
    let found : queue.answer (clash M.queue (transaction_of q)) ≡ Err c.in-Err.clash =
    ap (λ (m : Contents). queue.answer (clash m (transaction_of q))) (sym here)
    ∙ ap (λ (u : Bool). queue.answer (clash c.self.inside.queue (transaction q.tx u q.ros q.writes))) (sym c.is_upgrade.ensures)
    ∙ sym c.validate.ensures ∙ c.in-Err.is in
    refused_by_queue (clash M.queue (transaction_of q)) c.in-Err.clash c.refuse_clash.result (sets.stale M.sessions.sets c.args.session q.ros q.upto) found c.refuse_clash.ensures
