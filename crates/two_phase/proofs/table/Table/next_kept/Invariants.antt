use Rattle.std.proofs.Common.{◌≡◌}
use Rattle.thor_value.specs.Names.{ts_cmp}
use Rattle.two_phase.specs.Walks.{behind, first_kept}
use Rattle.two_phase.proofs.table.Table.next_kept.Given as goal

abbrev pub invariant-loop-tx : goal.invariant-loop-tx
invariant-loop-tx l =
    (goal.iterator-loop-tx).can_next l.tx-iterator ×
    (goal.iterator-loop-tx).is_finite l.tx-iterator ×
    (first_kept l.tx-iterator ≡ first_kept (behind ts_cmp l.fn.after l.fn.self.transactions.pairs))
