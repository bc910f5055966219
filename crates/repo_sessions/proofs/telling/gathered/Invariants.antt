use Rattle.cached_sets.specs.Sets.{told_of}
use Rattle.repo_sessions.proofs.telling.gathered.Given as goal
use Rattle.repo_sessions.specs.Noting.{named, noted_all}
use Rattle.std.proofs.Common.{drop, map, ◌≡◌}
use Rattle.thor_value.specs.FiniteMap.{empty}

-- the marks that are left lead to the same
abbrev pub invariant-loop-mark : goal.invariant-loop-mark
invariant-loop-mark l = noted_all (named l.holders.entries) (map told_of (drop l.mark-index l.marks)) ≡ noted_all empty (map told_of l.marks)
