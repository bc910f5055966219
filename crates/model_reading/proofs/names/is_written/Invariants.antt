use Rattle.std.proofs.Common.{drop, ◌≡◌}
use Rattle.std.specs.List.{list_any}
use Rattle.std.specs.Map.{keys_of}
use Rattle.thor_value.specs.Names.{same_oref}
use Rattle.model_reading.proofs.names.is_written.Given as goal

-- what is left to look at decides
abbrev pub invariant-loop-write : goal.invariant-loop-write
invariant-loop-write l = list_any (same_oref l.oref) (keys_of (drop l.write-index l.writes)) ≡ list_any (same_oref l.oref) (keys_of l.writes)
