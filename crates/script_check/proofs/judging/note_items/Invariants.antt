use Rattle.std.proofs.Common.{◌≡◌, take}
use Rattle.class_defs.specs.Rules.{least_with}
use Rattle.script_check.specs.Judging.{items_rules}
use Rattle.script_check.proofs.judging.note_items.Given as goal

-- what those so far break
abbrev pub invariant-loop-item : goal.invariant-loop-item
invariant-loop-item l = l.found ≡ least_with l.fn.found (items_rules l.schema l.repos (take l.item-index l.items))
