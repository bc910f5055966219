use Rattle.std.proofs.Common.{take, ◌≡◌}
use Rattle.store_opening.proofs.alike.are_same_roots.Given as goal

-- those before the place are equal
abbrev pub invariant-loop-place : goal.invariant-loop-place
invariant-loop-place l = take l.place l.some ≡ take l.place l.others
