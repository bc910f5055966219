use Rattle.std.proofs.Common.{◌≡◌, ◌++◌}
use Rattle.std.specs.Map.{keys_of}
use Rattle.two_phase.specs.Lists.{decision_of, kept_decisions, those}
use Rattle.two_phase.proofs.table.Table.kept_decisions.Given as goal

abbrev pub invariant-loop-tx : goal.invariant-loop-tx
invariant-loop-tx l =
    (goal.iterator-loop-tx).can_next l.tx-iterator ×
    (goal.iterator-loop-tx).is_finite l.tx-iterator ×
    (l.kept ++ keys_of (those decision_of l.tx-iterator) ≡ kept_decisions l.fn.self)
