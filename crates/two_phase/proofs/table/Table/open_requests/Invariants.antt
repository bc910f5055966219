use Rattle.std.proofs.Common.{◌≡◌, ◌++◌}
use Rattle.std.specs.Map.{values_of}
use Rattle.two_phase.specs.Contents.{request_of}
use Rattle.two_phase.specs.Lists.{open_requests, those}
use Rattle.two_phase.proofs.table.Table.open_requests.Given as goal

abbrev pub invariant-loop-transaction : goal.invariant-loop-transaction
invariant-loop-transaction l =
    (goal.iterator-loop-transaction).can_next l.transaction-iterator ×
    (goal.iterator-loop-transaction).is_finite l.transaction-iterator ×
    (l.requests ++ values_of (those request_of l.transaction-iterator) ≡ open_requests l.fn.self)
