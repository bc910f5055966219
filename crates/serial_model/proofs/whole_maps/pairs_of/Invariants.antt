use Rattle.std.proofs.Common.{◌≡◌, take}
use Rattle.std.specs.List.{flat_map}
use Rattle.thor_value.specs.FiniteMap.{get}
use Rattle.serial_model.specs.Whole.{found}
use Rattle.serial_model.proofs.whole_maps.pairs_of.Given as goal

-- the pairs of the names so far
abbrev pub invariant-loop-name : goal.invariant-loop-name
invariant-loop-name g l = l.pairs ≡ flat_map (λ x. found x (get l.objects x)) (take l.name-index l.name-items)
