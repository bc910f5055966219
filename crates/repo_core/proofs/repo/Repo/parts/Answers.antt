use Rattle.disk_trait.specs.Fused.{fused_disks}
use Rattle.repo_core.specs.Shown.{Shown}
use Rattle.repo_durable.proofs.Saying.{images_of}
use Rattle.repo_durable.specs.Kept.{pending}
use Rattle.repo_durable.specs.Saying.{ImagesSay}
use Rattle.std.proofs.Common.{ap, subst, sym, ◌∙◌}
use Rattle.repo_core.proofs.repo.Repo.parts.Goals as goal

pub returns : goal.returns
returns g c = λ whole.
    let i = c.self.inside in
    let says = images_of g.P.Parts.disks i.stable (ap (λ (s : Shown). s.is_torn) c.self.view_is ∙ whole) c.self.invariant.0 c.self.invariant.1 in
    subst (λ (s : Shown). ImagesSay (fused_disks g.P.Parts.disks c.parts.result.now) s.held s.pending) c.self.view_is
    (subst (λ f. ImagesSay (fused_disks g.P.Parts.disks f) i.stable.held (pending i.stable)) (sym c.parts.ensures) says)
