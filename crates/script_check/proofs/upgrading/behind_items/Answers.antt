use Rattle.script_check.specs.Upgrading.{blocks_of, upgrade_in}
use Rattle.script_check.proofs.UpgradingLaws.{ends, goes_on}
use Rattle.script_check.proofs.upgrading.behind_items.Goals as goal

pub loop-item-preserved : goal.loop-item-preserved
loop-item-preserved c =
    goes_on upgrade_in (blocks_of c.args.all.now) c.args.schema.schema c.args.schema.repos c.args.items.now c.loop-item.item-index c.loop-item.standing c.loop-item.invariant
    c.item-item.result c.loop-item-test.true c.item-item.is c.in_ok-standing.standing c.in_ok-standing.ensures

pub returns : goal.returns
returns c = ends upgrade_in (blocks_of c.args.all.now) c.args.schema.schema c.args.schema.repos c.args.items.now c.loop-item.item-index c.loop-item.standing c.loop-item.invariant c.loop-item-test.false
