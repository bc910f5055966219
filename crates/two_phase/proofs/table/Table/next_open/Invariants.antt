use Rattle.std.proofs.Common.{◌≡◌}
use Rattle.thor_value.specs.Names.{ts_cmp}
use Rattle.two_phase.specs.Walks.{behind, first_open}
use Rattle.two_phase.proofs.table.Table.next_open.Given as goal

abbrev pub invariant-loop-transaction : goal.invariant-loop-transaction
invariant-loop-transaction l =
    (goal.iterator-loop-transaction).can_next l.transaction-iterator ×
    (goal.iterator-loop-transaction).is_finite l.transaction-iterator ×
    (first_open l.transaction-iterator ≡ first_open (behind ts_cmp l.fn.after l.fn.self.transactions.pairs))
