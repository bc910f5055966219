use Rattle.std.proofs.Common.{◌≡◌, ◌++◌}
use Rattle.two_phase.proofs.table.Table.single_commits.Given as goal

abbrev pub invariant-loop-client : goal.invariant-loop-client
invariant-loop-client l =
    (goal.iterator-loop-client).can_next l.client-iterator ×
    (goal.iterator-loop-client).is_finite l.client-iterator ×
    (l.singles ++ l.client-iterator ≡ l.fn.self.alone.pairs)
