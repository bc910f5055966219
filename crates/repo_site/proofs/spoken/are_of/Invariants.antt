use Rattle.std.proofs.Common.{drop, ◌≡◌}
use Rattle.std.specs.List.{AllByRecursion}
use Rattle.repo_site.proofs.spoken.are_of.Given as goal

-- the rest decides
abbrev pub invariant-loop-name : goal.invariant-loop-name
invariant-loop-name l = AllByRecursion (λ x. x.repo ≡ l.number) (drop l.name-index l.names) → AllByRecursion (λ x. x.repo ≡ l.number) l.names
