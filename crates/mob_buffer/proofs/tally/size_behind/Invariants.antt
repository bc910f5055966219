use Rattle.std.proofs.Common.{◌≡◌, take}
use Rattle.mob_buffer.specs.Buffer.{with_all}
use Rattle.mob_buffer.specs.Kept.{size_at}
use Rattle.mob_buffer.proofs.tally.size_behind.Given as goal

-- what the name has behind the writes before this one
abbrev pub invariant-loop-place : goal.invariant-loop-place
invariant-loop-place l = l.size ≡ size_at (with_all l.objects.entries (take l.place l.writes)) l.oref
