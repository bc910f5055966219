use Rattle.std.proofs.Common.{◌≡◌, take, map}
use Rattle.thor_value.specs.FiniteMap.{IsSorted, empty, overwrite}
use Rattle.script_check.specs.Opened.{root_object}
use Rattle.script_check.proofs.opening.root_objects.Given as goal

-- the objects of the roots so far
abbrev pub invariant-loop-root : goal.invariant-loop-root
invariant-loop-root l = (l.objects ≡ overwrite empty (map (root_object l.schema) (take l.root-index l.root-items))) × IsSorted l.objects
