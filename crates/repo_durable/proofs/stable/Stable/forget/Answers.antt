use Rattle.repo_durable.proofs.Forgetting.{says_forgotten}
use Rattle.repo_durable.proofs.Saying.{says_moved}
use Rattle.repo_durable.proofs.Staying.{keeps_up}
use Rattle.repo_durable.specs.Kept.{disks_of}
use Rattle.repo_durable.proofs.Readable.{moved_has}
use Rattle.std.proofs.Common.{ap}
use Rattle.repo_state.specs.declared.held.Held.{Held}
use Rattle.repo_durable.proofs.stable.Stable.forget.Goals as goal

pub returns-clause-says : goal.returns-clause-says
returns-clause-says g c = λ up is.
    let s = c.args.self.now in
    let keeps = keeps_up (disks_of g.P.Parts.disks s) s.held s.phase up c.requires.kept.stands in
    record { says = says_moved (disks_of g.P.Parts.disks s) s.held c.forget.new.self s.phase up is.says (says_forgotten s.held c.forget.new.self c.args.tx c.forget.ensures.held keeps) }

pub returns-clause-readable : goal.returns-clause-readable
returns-clause-readable g c = λ has. moved_has g.P.Parts.disks c.args.self.now c.forget.new.self (ap (λ (h : Held). h.objects.pages.sides) c.forget.ensures.held) has
