use Rattle.std.proofs.Common.{drop, ◌≡◌}
use Rattle.thor_value.specs.FiniteMap.{overwrite}
use Rattle.model_reading.specs.Tables.{objects_in}
use Rattle.model_reading.proofs.names.overwrite.Given as goal

-- what is left is put over the rest
abbrev pub invariant-loop-write : goal.invariant-loop-write
invariant-loop-write l = overwrite (objects_in l.objects) (drop l.write-index l.fn.writes) ≡ overwrite (objects_in l.fn.objects) l.fn.writes
