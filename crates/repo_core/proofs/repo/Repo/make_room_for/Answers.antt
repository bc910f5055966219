use Rattle.repo_core.proofs.Damage.{some_shown}
use Rattle.repo_core.proofs.Failing.{failed_between}
use Rattle.repo_core.specs.Shown.{Shown, shown}
use Rattle.repo_durable.specs.Kept.{disks_of}
use Rattle.std.proofs.Common.{ap, refl}
use Rattle.repo_core.proofs.Objects.{objects_shown, whole_up}
use Rattle.std.proofs.Common.{[], false, subst, true, ◌≡◌}
use Rattle.repo_core.proofs.repo.Repo.make_room_for.Goals as goal

pub returns-then-commit-clause-page : goal.returns-then-commit-clause-page
returns-then-commit-clause-page g c = λ n place wrong.
    let i = c.self.inside in
    some_shown g.P.Parts.disks c.make_room_for.new.stable i.memory i.trace i.opened_in _ place refl (c.make_room_for.ensures.page n place wrong)

pub returns-then-commit-clause-stopped : goal.returns-then-commit-clause-stopped
returns-then-commit-clause-stopped g c = λ n wrong.
    let i = c.self.inside in
    failed_between (disks_of g.P.Parts.disks i.stable) (disks_of g.P.Parts.disks c.make_room_for.new.stable) c.args.self.now (shown g.P.Parts.disks c.make_room_for.new.stable i.memory i.trace i.opened_in)
    (ap (λ (s : Shown). s.faults) c.self.view_is) refl (c.make_room_for.ensures.stopped n wrong)

pub returns-then-commit-clause-objects : goal.returns-then-commit-clause-objects
returns-then-commit-clause-objects g c =
    let i = c.self.inside in
    objects_shown g.P.Parts.disks [] i.stable i.memory i.trace i.opened_in c.args.self.now (shown g.P.Parts.disks c.make_room_for.new.stable i.memory i.trace i.opened_in) c.self.view_is c.make_room_for.ensures.map

pub returns-else-commit-clause-whole : goal.returns-else-commit-clause-whole
returns-else-commit-clause-whole g c = (subst (λ (s : Shown). s.is_up ≡ true → s.is_torn ≡ false) c.self.view_is (whole_up c.self.inside.stable)) c.requires
