use Rattle.std.proofs.Common.{ap, subst, true, ◌∙◌, ◌≡◌}
use Rattle.repo_state.specs.Keeps.{Keeps}
use Rattle.repo_core.proofs.Falls.{keeps_up}
use Rattle.repo_core.proofs.Stamps.{open_stamp}
use Rattle.repo_core.specs.Shown.{Shown}
use Rattle.repo_durable.specs.Kept.{is_up}
use Rattle.repo_core.proofs.repo.Repo.is_open.Goals as goal

pub returns-clause-stamp : goal.returns-clause-stamp
returns-clause-stamp g c = λ up is.
    let up_inside : is_up c.self.inside.stable ≡ true = ap (λ (s : Shown). s.is_up) c.self.view_is ∙ up in
    let keeps : Keeps c.args.self.now.held = subst Keeps (ap (λ (s : Shown). s.held) c.self.view_is) (keeps_up g.P.Parts.disks c.self.inside.stable c.self.invariant.0 up_inside) in
    open_stamp c.args.self.now.held c.args.tx keeps is
