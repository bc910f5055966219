use Rattle.std.proofs.Common.{◌≡◌, ◌++◌}
use Rattle.std.specs.Vec.Iter.{into_iter_items}
use Rattle.repo_state.proofs.making.buffer_of.Given as goal

-- the objects that are still to come stand behind those that are there
abbrev pub invariant-loop-name : goal.invariant-loop-name
invariant-loop-name l = (l.buffer.limit ≡ l.fn.mob_limit) × (l.buffer.objects ++ into_iter_items l.name-iterator ≡ l.fn.mob)
