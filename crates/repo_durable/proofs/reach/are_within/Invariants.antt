use Rattle.std.proofs.Common.{take, true, ◌≡◌}
use Rattle.repo_durable.specs.Reach.{are_within}
use Rattle.repo_durable.proofs.reach.are_within.Given as goal

-- those so far end within the length
abbrev pub invariant-loop-side : goal.invariant-loop-side
invariant-loop-side l = are_within l.length (take l.side-index l.sides) ≡ true
