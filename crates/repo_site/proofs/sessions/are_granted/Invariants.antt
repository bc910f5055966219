use Rattle.std.proofs.Common.{drop}
use Rattle.std.specs.List.{AllByRecursion}
use Rattle.std.specs.Prelude.{◌<◌}
use Rattle.repo_site.proofs.sessions.are_granted.Given as goal

-- the rest decides
abbrev pub invariant-loop-write : goal.invariant-loop-write
invariant-loop-write l = AllByRecursion (λ w. w.0.page < l.next) (drop l.write-index l.writes) → AllByRecursion (λ w. w.0.page < l.next) l.writes
