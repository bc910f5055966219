use Rattle.std.proofs.Common.{◌≡◌}
use Rattle.thor_value.specs.FiniteMap.{overwrite}
use Rattle.serial_model.proofs.whole_maps.overwrite.Given as goal

-- the objects put in so far
abbrev pub invariant-loop-oref : goal.invariant-loop-oref
invariant-loop-oref g l = l.objects ≡ overwrite l.initial.objects l.yielded
