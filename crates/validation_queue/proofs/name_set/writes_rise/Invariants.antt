use Rattle.std.proofs.Common.{◌≡◌, drop}
use Rattle.std.specs.Map.{keys_of}
use Rattle.std.specs.Prelude.{None}
use Rattle.validation_queue.specs.Names.{rises_after}
use Rattle.validation_queue.proofs.name_set.writes_rise.Given as goal

-- what is left to look at decides
abbrev pub invariant-loop-write : goal.invariant-loop-write
invariant-loop-write l = rises_after l.last (keys_of (drop l.write-index l.writes)) ≡ rises_after None (keys_of l.writes)
