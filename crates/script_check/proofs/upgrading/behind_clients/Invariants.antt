use Rattle.std.specs.List.{flat_map}
use Rattle.script_check.specs.Upgrading.{blocks_of, upgrade_in}
use Rattle.script_check.proofs.UpgradingLaws.{Standing}
use Rattle.script_check.proofs.upgrading.behind_clients.Given as goal

-- the upgrades to come lead on from here
abbrev pub invariant-loop-client : goal.invariant-loop-client
invariant-loop-client l = Standing (flat_map upgrade_in) (blocks_of l.clients) l.fn.schema.schema l.fn.schema.repos l.clients l.client-index l.standing
