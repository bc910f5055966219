use Rattle.repo_core.proofs.Damage.{some_shown}
use Rattle.std.proofs.Common.{refl}
use Rattle.repo_core.proofs.Objects.{objects_shown}
use Rattle.repo_core.specs.Shown.{shown}
use Rattle.std.proofs.Common.{[]}
use Rattle.repo_core.proofs.repo.Repo.make_room.Goals as goal

pub returns-clause-page : goal.returns-clause-page
returns-clause-page g c = λ n place wrong.
    let i = c.self.inside in
    some_shown g.P.Parts.disks c.make_room.new.stable i.memory i.trace i.opened_in _ place refl (c.make_room.ensures.page n place wrong)

pub returns-clause-objects : goal.returns-clause-objects
returns-clause-objects g c =
    let i = c.self.inside in
    objects_shown g.P.Parts.disks [] i.stable i.memory i.trace i.opened_in c.args.self.now (shown g.P.Parts.disks c.make_room.new.stable i.memory i.trace i.opened_in) c.self.view_is c.make_room.ensures.map
