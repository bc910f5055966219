use Rattle.std.proofs.Common.{◌≡◌, take}
use Rattle.std.specs.List.{flat_map}
use Rattle.class_defs.specs.Rules.{least_with}
use Rattle.script_check.specs.Judging.{items_rules}
use Rattle.script_check.proofs.judging.note_clients.Given as goal

-- what those so far break
abbrev pub invariant-loop-client : goal.invariant-loop-client
invariant-loop-client l = l.found ≡ least_with l.fn.found (flat_map (items_rules l.schema l.repos) (take l.client-index l.clients))
