use Rattle.std.proofs.Common.{take, ◌≡◌}
use Rattle.store_opening.specs.Bringing.{with_all}
use Rattle.thor_value.specs.FiniteMap.{IsSorted}
use Rattle.store_opening.proofs.eager.put_all.Given as goal

-- the names so far
abbrev pub invariant-loop-oref : goal.invariant-loop-oref
invariant-loop-oref l = (IsSorted l.fn.objects → IsSorted l.objects) × (l.objects ≡ with_all l.schemas l.stored.objects l.stored.epoch l.fn.objects (take l.oref-index l.names))
