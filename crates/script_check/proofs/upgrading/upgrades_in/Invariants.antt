use Rattle.std.proofs.Common.{◌≡◌, length, min, take}
use Rattle.std.specs.List.{flat_map}
use Rattle.script_check.specs.Upgrading.{upgrade_in}
use Rattle.script_check.proofs.upgrading.upgrades_in.Given as goal

-- those so far are counted
abbrev pub invariant-loop-item : goal.invariant-loop-item
invariant-loop-item l = l.count ≡ min (length (flat_map upgrade_in (take l.item-index l.items))) 18446744073709551615
