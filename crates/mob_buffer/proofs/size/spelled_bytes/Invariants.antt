use Rattle.std.proofs.Common.{take}
use Rattle.mob_buffer.specs.Buffer.{bytes_of}
use Rattle.mob_buffer.proofs.Sizes.{Told}
use Rattle.mob_buffer.proofs.size.spelled_bytes.Given as goal

-- the bytes of the writes before this one, as far as they can be told
abbrev pub invariant-loop-write : goal.invariant-loop-write
invariant-loop-write l = Told l.size (bytes_of (take l.write-index l.writes))
