use Rattle.std.proofs.Common.{◌≡◌, map}
use Rattle.thor_value.specs.FiniteMap.{get}
use Rattle.serial_model.specs.Upgrading.{transformed_pair}
use Rattle.serial_model.proofs.upgrading.transformed_pairs.Given as goal

-- the objects so far
abbrev pub invariant-loop-oref : goal.invariant-loop-oref
invariant-loop-oref l = l.made ≡ map (transformed_pair l.old l.new l.upgrade (get l.objects)) l.yielded
