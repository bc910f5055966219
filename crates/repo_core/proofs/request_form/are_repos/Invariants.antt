use Rattle.std.proofs.Common.{drop}
use Rattle.std.specs.List.{AllByRecursion}
use Rattle.std.specs.Prelude.{◌<◌}
use Rattle.repo_core.proofs.request_form.are_repos.Given as goal

-- the rest decides
abbrev pub invariant-loop-repo : goal.invariant-loop-repo
invariant-loop-repo l = AllByRecursion (λ r. r < 8) (drop l.repo-index l.repos) → AllByRecursion (λ r. r < 8) l.repos
