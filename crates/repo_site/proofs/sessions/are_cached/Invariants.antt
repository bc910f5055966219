use Rattle.cached_sets.specs.Meaning.{has_page}
use Rattle.std.proofs.Common.{drop, true, ◌≡◌}
use Rattle.std.specs.List.{AllByRecursion}
use Rattle.repo_site.proofs.sessions.are_cached.Given as goal

-- the rest decides
abbrev pub invariant-loop-write : goal.invariant-loop-write
invariant-loop-write g l = AllByRecursion (λ w. has_page l.repo.memory.sessions.sets l.session w.0.page ≡ true) (drop l.write-index l.writes) → AllByRecursion (λ w. has_page l.repo.memory.sessions.sets l.session w.0.page ≡ true) l.writes
