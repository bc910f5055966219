use Rattle.cluster_core.proofs.Begun.{begins_over}
use Rattle.std.proofs.Common.{IfOk, length, subst, ℕ, ◌≡◌}
use Rattle.cluster_core.proofs.playing.played.Goals as goal

pub open-requires : goal.open-requires
open-requires g c = begins_over g.O.Opening.run c.args.found.places.items c.args.found.mob c.args.plan.start c.requires

pub returns-in-Ok-clause-told : goal.returns-in-Ok-clause-told
returns-in-Ok-clause-told g c = subst (λ (n : ℕ). IfOk c.run.result.ran (λ ran. length ran.traces ≡ n)) c.in-Ok.ensures.ok c.run.ensures.told
