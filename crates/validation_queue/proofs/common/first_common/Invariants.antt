use Rattle.std.proofs.Common.{◌≡◌, ◌+◌, find, length, map}
use Rattle.validation_queue.specs.Names.{Rises, is_among}
use Rattle.validation_queue.proofs.common.first_common.Given as goal

-- what is left of both lists decides
abbrev pub invariant-loop-thing : goal.invariant-loop-thing
invariant-loop-thing g l = Rises (map g.N.Named.name_of l.left) × Rises l.right × (find (is_among l.right) (map g.N.Named.name_of l.left) ≡ find (is_among l.names) (map g.N.Named.name_of l.things))

abbrev pub decreases-loop-thing : goal.decreases-loop-thing
decreases-loop-thing g l = length l.left + length l.right
