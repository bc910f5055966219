use Rattle.cached_sets.proofs.invalid_sets.InvalidSets.undo.Given as goal
use Rattle.cached_sets.specs.Undoing.{undo}
use Rattle.std.proofs.Common.{length, ◌+◌, ◌≡◌}

-- what is left to take back leads to the same
abbrev pub invariant-loop-mark : goal.invariant-loop-mark
invariant-loop-mark g l = record {
  rest : undo (record { pairs = l.self-inside.sets.entries }) l.done.items ≡ undo (record { pairs = l.initial.self-inside.sets.entries }) l.initial.done.items;
  cost : l.steps + length l.done.items ≡ l.initial.steps + length l.initial.done.items;
}

abbrev pub decreases-loop-mark : goal.decreases-loop-mark
decreases-loop-mark g l = goal.left-loop-mark g l
