use Rattle.std.proofs.Common.{◌≡◌, length, take}
use Rattle.mob_buffer.proofs.objects.cut.Given as goal

abbrev pub invariant-loop-objects : goal.invariant-loop-objects
invariant-loop-objects l = (take l.len l.objects.entries ≡ take l.len l.fn.objects.entries) × (l.objects.cap ≡ l.fn.objects.cap)

abbrev pub decreases-loop-objects : goal.decreases-loop-objects
decreases-loop-objects l = length l.objects.entries
