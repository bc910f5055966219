use Rattle.std.proofs.Common.{◌≡◌}
use Rattle.thor_value.specs.FiniteMap.{overwrite}
use Rattle.store_opening.proofs.joined.take_buffer.Given as goal

-- what is left is put over what was put
abbrev pub invariant-loop-oref : goal.invariant-loop-oref
invariant-loop-oref l =
    (goal.iterator-loop-oref).can_next l.oref-iterator ×
    (goal.iterator-loop-oref).is_finite l.oref-iterator ×
    (overwrite l.objects l.oref-iterator ≡ overwrite l.fn.objects l.buffer.objects)
