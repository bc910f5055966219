use Rattle.std.proofs.Common.{◌≡◌, take}
use Rattle.std.specs.Map.{keys_of}
use Rattle.validation_queue.proofs.name_set.NameSet.of_writes.Given as goal

-- the names so far
abbrev pub invariant-loop-write : goal.invariant-loop-write
invariant-loop-write l = l.names.items ≡ keys_of (take l.write-index l.writes)
