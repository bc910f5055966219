use Rattle.std.proofs.Common.{ap, ◌∙◌}
use Rattle.store_opening.proofs.Walking.{keeps_is}
use Rattle.thor_value.specs.FiniteMap.{get}
use Rattle.two_phase.specs.Contents.{Contents, keeps}
use Rattle.store_opening.proofs.joined.keeps.Goals as goal

pub returns : goal.returns
returns c =
    let held = c.args.read.now.recovered.now.state in
    c.keeps.ensures ∙ (ap (λ (t : Contents). keeps (get t.transactions c.args.tx)) c.table.ensures ∙ keeps_is held.repo held.table c.requires.keeps.table c.args.tx)
