use Rattle.std.proofs.Common.{◌≡◌, take}
use Rattle.thor_value.proofs.sequence.SequenceTryCopy.copy.Given as goal

-- as many copies as were made so far
abbrev pub invariant-loop-item : goal.invariant-loop-item
invariant-loop-item g l = l.items.items ≡ take l.item-index l.self
