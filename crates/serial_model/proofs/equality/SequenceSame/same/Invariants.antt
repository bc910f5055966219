use Rattle.std.proofs.Common.{◌≡◌, take}
use Rattle.serial_model.proofs.equality.SequenceSame.same.Given as goal

-- those before the place are equal
abbrev pub invariant-loop-place : goal.invariant-loop-place
invariant-loop-place g l = take l.place l.some ≡ take l.place l.others
