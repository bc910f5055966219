use Rattle.std.proofs.Common.{◌≡◌, ◌++◌}
use Rattle.std.specs.Vec.Iter.{into_iter_items}
use Rattle.script_parse.specs.Reads.{Each}
use Rattle.script_parse.specs.Script.{IsItem}
use Rattle.script_parse.proofs.reading.read_items.Given as goal

-- the items so far were read, and those to come are the rest
abbrev pub invariant-loop-item : goal.invariant-loop-item
invariant-loop-item l = (l.yielded ++ into_iter_items l.item-iterator ≡ l.fn.items) × Each IsItem l.yielded l.whats
