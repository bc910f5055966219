use Rattle.std.proofs.Common.{◌≡◌}
use Rattle.std.specs.List.{list_any}
use Rattle.std.specs.Map.{values_of}
use Rattle.thor_value.specs.Names.{same_ts}
use Rattle.two_phase.specs.Contents.{is_alone}
use Rattle.two_phase.proofs.table.Table.is_alone.Given as goal

abbrev pub invariant-loop-last : goal.invariant-loop-last
invariant-loop-last l =
    (goal.iterator-loop-last).can_next l.last-iterator ×
    (goal.iterator-loop-last).is_finite l.last-iterator ×
    (list_any (same_ts l.fn.tx) (values_of l.last-iterator) ≡ is_alone l.fn.self l.fn.tx)
