use Rattle.std.proofs.Common.{◌≡◌, map, take}
use Rattle.log_codec.specs.Checkpoint.{tx_of}
use Rattle.log_codec.proofs.checkpoints.stamps_of.Given as goal

-- the timestamps so far
abbrev pub invariant-loop-request : goal.invariant-loop-request
invariant-loop-request l = l.stamps ≡ map tx_of (take l.request-index l.requests)
