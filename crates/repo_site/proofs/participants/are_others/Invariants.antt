use Rattle.std.proofs.Common.{drop}
use Rattle.std.specs.List.{AllByRecursion}
use Rattle.std.specs.Prelude.{◌<◌, ◌≢◌}
use Rattle.repo_site.proofs.participants.are_others.Given as goal

-- the rest decides
abbrev pub invariant-loop-other : goal.invariant-loop-other
invariant-loop-other l = AllByRecursion (λ r. (r < l.repos) × (r ≢ l.number)) (drop l.other-index l.others) → AllByRecursion (λ r. (r < l.repos) × (r ≢ l.number)) l.others
