use Rattle.std.proofs.Common.{◌≡◌, ◌<◌, length, get_or, arith}
use Rattle.std.proofs.lemmas.Grind.{common_steps}
use Rattle.class_defs.specs.UpgradeOrder.{inside_class}
use Rattle.ownership_check.proofs.Pieces.{class_more}
use Rattle.ownership_check.proofs.inside.inside_fault.Goals as goal

pub loop-place-preserved : goal.loop-place-preserved
loop-place-preserved c =
    let all = c.args.schema.now.classes in
    let within : c.loop-place.place < length all = grind (arith, common_steps) in
    let is : c.class-item.result ≡ get_or all c.loop-place.place c.class-item.result = cc in
    let rules = inside_class c.args.upgrade.now c.args.schema.now c.args.repos in
    let step = class_more rules all c.loop-place.place c.class-item.result c.loop-place.found _ within is c.loop-place.invariant in
    rw c.in_ok-inside_class.ensures step
