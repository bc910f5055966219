use Rattle.std.proofs.Common.{◌≡◌, ◌≤◌, ◌<◌, ℕ, false}
use Rattle.mob_buffer.specs.Buffer.{has_slot}
use Rattle.mob_buffer.proofs.mob.next_slot.Given as goal

-- the slots before this one have no object
abbrev pub invariant-loop-slot : goal.invariant-loop-slot
invariant-loop-slot l = (s : ℕ) → l.low ≤ s → s < l.slot → has_slot l.objects.entries l.page s ≡ false
