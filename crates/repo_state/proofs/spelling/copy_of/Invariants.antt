use Rattle.std.proofs.Common.{◌≡◌, ◌++◌}
use Rattle.repo_state.proofs.spelling.copy_of.Given as goal

-- the objects so far, and those that are left
abbrev pub invariant-loop-name : goal.invariant-loop-name
invariant-loop-name l =
    (goal.iterator-loop-name).can_next l.name-iterator ×
    (goal.iterator-loop-name).is_finite l.name-iterator ×
    (l.mob ++ l.name-iterator ≡ l.buffer.objects)
