use Rattle.std.proofs.Common.{◌≡◌, take}
use Rattle.disk_trait.proofs.crash.same_front.Given as goal

abbrev pub invariant-loop-place : goal.invariant-loop-place
invariant-loop-place l = take l.place l.some ≡ take l.place l.other
