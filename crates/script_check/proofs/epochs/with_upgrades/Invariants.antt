use Rattle.std.proofs.Common.{◌≡◌, take}
use Rattle.std.specs.List.{flat_map}
use Rattle.script_check.specs.Upgrading.{extended, upgrade_in}
use Rattle.script_check.proofs.epochs.with_upgrades.Given as goal

-- the upgrades of the clients so far stand behind the others
abbrev pub invariant-loop-client : goal.invariant-loop-client
invariant-loop-client l = l.schemas ≡ extended l.fn.schemas (flat_map (flat_map upgrade_in) (take l.client-index l.clients))
