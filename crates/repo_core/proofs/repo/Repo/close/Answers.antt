use Rattle.repo_core.specs.Shown.{Shown}
use Rattle.repo_durable.proofs.Saying.{images_inside, images_of}
use Rattle.repo_durable.specs.Kept.{pending}
use Rattle.repo_durable.specs.Saying.{ImagesSay}
use Rattle.repo_state.specs.Keeps.{Keeps}
use Rattle.repo_core.proofs.Falls.{keeps_whole}
use Rattle.std.proofs.Common.{None, ap, subst, sym, ◌∙◌, ◌≡◌}
use Rattle.repo_core.proofs.Stopped.{none_up}
use Rattle.repo_core.proofs.repo.Repo.close.Goals as goal

pub returns-clause-says : goal.returns-clause-says
returns-clause-says g c = λ whole.
    let i = c.self.inside in
    let inside = i.stable.parts in
    let says = images_of g.P.Parts.disks i.stable (ap (λ (s : Shown). s.is_torn) c.self.view_is ∙ whole) c.self.invariant.0 c.self.invariant.1 in
    subst (λ (s : Shown). ImagesSay (g.P.Parts.disks c.into_parts.result) s.held s.pending) c.self.view_is
    (subst (λ p. ImagesSay (g.P.Parts.disks p) i.stable.held (pending i.stable)) (sym c.into_parts.ensures)
    (images_inside (g.P.Parts.disks inside.parts) inside.fuse.falls i.stable.held (pending i.stable) says))

pub returns-clause-none : goal.returns-clause-none
returns-clause-none g c = λ up.
    let i = c.self.inside in
    subst (λ (s : Shown). s.pending ≡ None) c.self.view_is (none_up i.stable.phase (ap (λ (s : Shown). s.is_up) c.self.view_is ∙ up))

pub returns-clause-keeps : goal.returns-clause-keeps
returns-clause-keeps g c = λ whole.
    let i = c.self.inside in
    subst (λ (s : Shown). Keeps s.held) c.self.view_is (keeps_whole g.P.Parts.disks i.stable c.self.invariant.0 (ap (λ (s : Shown). s.is_torn) c.self.view_is ∙ whole))

pub returns-clause-content : goal.returns-clause-content
returns-clause-content g c =
    subst (λ (s : Shown). (g.P.Parts.disks c.into_parts.result).content 2 ≡ s.pages) c.self.view_is (ap (λ p. (g.P.Parts.disks p).content 2) c.into_parts.ensures)
