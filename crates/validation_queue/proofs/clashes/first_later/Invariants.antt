use Rattle.std.proofs.Common.{◌≡◌}
use Rattle.std.specs.Map.{keys_of}
use Rattle.validation_queue.specs.Clashes.{comes_later, first_some}
use Rattle.validation_queue.proofs.clashes.first_later.Given as goal

-- the members that are left decide
abbrev pub invariant-loop-of : goal.invariant-loop-of
invariant-loop-of l = first_some (comes_later l.tx l.ros (keys_of l.writes)) l.of-iterator ≡ first_some (comes_later l.tx l.ros (keys_of l.writes)) l.members.entries
