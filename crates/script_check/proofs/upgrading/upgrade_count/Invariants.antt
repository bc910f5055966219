use Rattle.std.proofs.Common.{◌≡◌, length, min, take}
use Rattle.script_check.specs.Upgrading.{upgrades_of}
use Rattle.script_check.proofs.upgrading.upgrade_count.Given as goal

-- those so far are counted
abbrev pub invariant-loop-client : goal.invariant-loop-client
invariant-loop-client l = l.count ≡ min (length (upgrades_of (take l.client-index l.clients))) 18446744073709551615
