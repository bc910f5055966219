use Rattle.std.proofs.Common.{◌≡◌}
use Rattle.validation_queue.specs.Clashes.{comes_earlier, first_some}
use Rattle.validation_queue.proofs.clashes.first_earlier.Given as goal

-- the members that are left decide
abbrev pub invariant-loop-of : goal.invariant-loop-of
invariant-loop-of l = first_some (comes_earlier l.tx l.ros) l.of-iterator ≡ first_some (comes_earlier l.tx l.ros) l.members.entries
