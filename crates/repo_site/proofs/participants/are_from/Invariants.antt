use Rattle.std.proofs.Common.{drop}
use Rattle.std.specs.List.{AllByRecursion}
use Rattle.std.specs.Prelude.{◌≤◌}
use Rattle.repo_site.proofs.participants.are_from.Given as goal

-- the rest decides
abbrev pub invariant-loop-other : goal.invariant-loop-other
invariant-loop-other l = AllByRecursion (λ r. l.number ≤ r) (drop l.other-index l.others) → AllByRecursion (λ r. l.number ≤ r) l.others
