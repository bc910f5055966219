use Rattle.std.proofs.Common.{◌≡◌, take}
use Rattle.std.specs.List.{flat_map}
use Rattle.class_defs.specs.Rules.{least_with}
use Rattle.class_defs.specs.SchemaRules.{item_rules}
use Rattle.ownership_check.proofs.outside.items_outside.Given as goal

-- what those so far break
abbrev pub invariant-loop-item : goal.invariant-loop-item
invariant-loop-item l = l.found ≡ least_with l.fn.found (flat_map (item_rules l.schema l.repos) (take l.item-index l.items))
