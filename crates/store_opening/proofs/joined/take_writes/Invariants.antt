use Rattle.std.proofs.Common.{take, ◌≡◌}
use Rattle.thor_value.specs.FiniteMap.{overwrite}
use Rattle.store_opening.proofs.joined.take_writes.Given as goal

abbrev pub invariant-loop-write : goal.invariant-loop-write
invariant-loop-write l = l.objects ≡ overwrite l.fn.objects (take l.write-index l.request.writes)
