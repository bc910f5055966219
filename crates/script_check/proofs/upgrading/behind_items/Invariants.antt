use Rattle.script_check.specs.Upgrading.{blocks_of, upgrade_in}
use Rattle.script_check.proofs.UpgradingLaws.{Standing}
use Rattle.script_check.proofs.upgrading.behind_items.Given as goal

-- the upgrades to come lead on from here
abbrev pub invariant-loop-item : goal.invariant-loop-item
invariant-loop-item l = Standing upgrade_in (blocks_of l.all) l.fn.schema.schema l.fn.schema.repos l.items l.item-index l.standing
