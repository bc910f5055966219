use Rattle.std.proofs.Common.{◌≡◌, take}
use Rattle.std.specs.List.{flat_map}
use Rattle.script_check.specs.Upgrading.{extended, upgrade_in}
use Rattle.script_check.proofs.epochs.take_items.Given as goal

-- the upgrades so far stand behind the others
abbrev pub invariant-loop-item : goal.invariant-loop-item
invariant-loop-item l = l.schemas ≡ extended l.fn.schemas (flat_map upgrade_in (take l.item-index l.items))
