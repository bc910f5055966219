use Rattle.std.proofs.Common.{ap, ℕ, ◌∙◌, ◌≡◌}
use Rattle.repo_core.proofs.Judged.{first_of}
use Rattle.repo_core.specs.Behind.{epoch_of}
use Rattle.repo_core.specs.Shown.{Shown}
use Rattle.repo_volatile.specs.Volatile.{Memory, answer, verdict}
use Rattle.repo_core.proofs.repo.Repo.judge_by_memory.Goals as goal

pub returns-clause-first : goal.returns-clause-first
returns-clause-first g c =
    let s = c.args.session in
    let q = c.args.request.now in
    let here : c.self.inside.memory ≡ c.args.self.now.memory = ap (λ (x : Shown). x.memory) c.self.view_is in
    first_of c.judge.result (verdict c.args.self.now.memory (epoch_of c.args.self.now.held) s q)
    (c.judge.ensures.answer ∙ (ap (λ (m : Memory). answer (verdict m c.epoch.result s q)) here ∙ ap (λ (n : ℕ). answer (verdict c.args.self.now.memory n s q)) c.epoch.ensures))
