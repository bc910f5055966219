use Rattle.std.proofs.Common.{◌≡◌}
use Rattle.std.specs.Vec.Iter.{into_iter_items}
use Rattle.thor_value.specs.FiniteMap.{overwrite}
use Rattle.repo_opening.proofs.pages.put_objects.Given as goal

-- with the objects that are still to come it is the whole
abbrev pub invariant-loop-name : goal.invariant-loop-name
invariant-loop-name l = overwrite l.objects (into_iter_items l.name-iterator) ≡ overwrite l.fn.objects l.fn.found
