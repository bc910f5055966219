use Rattle.std.proofs.Common.{◌≡◌, drop}
use Rattle.thor_value.specs.FiniteMap.{empty}
use Rattle.log_codec.specs.Checkpoint.{are_new}
use Rattle.log_codec.proofs.checkpoints.are_new.Given as goal

-- what is left decides
abbrev pub invariant-loop-write : goal.invariant-loop-write
invariant-loop-write l = are_new l.seen (drop l.write-index l.writes) ≡ are_new empty l.writes
