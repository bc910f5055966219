use Rattle.std.proofs.Common.{IfOk, length, subst, ℕ, ◌≡◌}
use Rattle.cluster_core.proofs.playing.run.Goals as goal

pub returns-in-Ok-clause-told : goal.returns-in-Ok-clause-told
returns-in-Ok-clause-told g c = subst (λ (n : ℕ). IfOk c.finish.result.ran (λ ran. length ran.traces ≡ n)) c.perform.ensures c.finish.ensures.told
