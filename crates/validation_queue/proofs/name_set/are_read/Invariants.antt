use Rattle.std.proofs.Common.{◌≡◌, drop}
use Rattle.std.specs.Map.{keys_of}
use Rattle.validation_queue.specs.Names.{all_among}
use Rattle.validation_queue.proofs.name_set.are_read.Given as goal

-- what is left to look at decides
abbrev pub invariant-loop-write : goal.invariant-loop-write
invariant-loop-write l = all_among l.names (keys_of (drop l.write-index l.writes)) ≡ all_among l.names (keys_of l.writes)
