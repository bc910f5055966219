use Rattle.script_check.specs.Upgrading.{upgrade_in}
use Rattle.script_check.proofs.Extending.{one_more}
use Rattle.script_check.proofs.epochs.take_items.Goals as goal

pub loop-item-preserved : goal.loop-item-preserved
loop-item-preserved c =
    one_more upgrade_in c.args.schemas.now c.loop-item.schemas _ c.args.items.now c.loop-item.item-index c.item-item.result c.loop-item-test.true c.item-item.is c.loop-item.invariant c.in_ok-take_item.ensures
