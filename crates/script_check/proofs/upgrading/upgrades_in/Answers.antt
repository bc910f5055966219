use Rattle.std.proofs.Common.{◌∙◌, arith}
use Rattle.script_check.specs.Upgrading.{upgrade_in}
use Rattle.script_check.proofs.UpgradingLaws.{counted, one_at_most}
use Rattle.script_check.proofs.upgrading.upgrades_in.Goals as goal

pub loop-item-preserved : goal.loop-item-preserved
loop-item-preserved c =
    c.saturating_add-count.ensures
    ∙ counted upgrade_in c.args.items.now c.loop-item.item-index c.item-item.result c.loop-item.count c.upgrade_number.result c.loop-item-test.true c.item-item.is c.loop-item.invariant
    (omega (arith, c.upgrade_number.ensures, one_at_most c.item-item.result))
