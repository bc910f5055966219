use Rattle.std.proofs.Common.{◌≡◌, ◌++◌, Some}
use Rattle.std.specs.Vec.Iter.{into_iter_items}
use Rattle.audit_check.specs.Agreement.{history_of}
use Rattle.audit_check.proofs.lines.told.Given as goal

-- the history of the lines so far, and those to come are the rest
abbrev pub invariant-loop-line : goal.invariant-loop-line
invariant-loop-line l = (l.yielded ++ into_iter_items l.line-iterator ≡ l.fn.lines) × (history_of l.clients l.yielded ≡ Some l.history)
