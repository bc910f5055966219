use Rattle.std.proofs.Common.{map, ◌++◌, ◌≡◌}
use Rattle.std.specs.Vec.Iter.{into_iter_items}
use Rattle.top_history_check.specs.Lines.{ArePerformed, line_of}
use Rattle.top_history_check.proofs.assembling.history_of.Given as goal

-- the entries so far performed their items, and with the lines to come they are all lines
abbrev pub invariant-loop-line : goal.invariant-loop-line
invariant-loop-line l = ArePerformed l.clients l.history × (map line_of l.history ++ into_iter_items l.line-iterator ≡ l.fn.lines)
