use Rattle.std.proofs.Common.{take}
use Rattle.mob_buffer.specs.Kept.{Tallied}
use Rattle.mob_buffer.proofs.tally.bytes_behind.Given as goal

-- the tally behind the writes before this one
abbrev pub invariant-loop-place : goal.invariant-loop-place
invariant-loop-place l = Tallied l.objects.entries (take l.place l.writes) l.tally.total l.tally.bound
