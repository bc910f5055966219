use Rattle.std.proofs.Common.{drop, ◌≡◌}
use Rattle.std.specs.List.{AllByRecursion}
use Rattle.repo_site.proofs.spoken.have_version.Given as goal

-- the rest decides
abbrev pub invariant-loop-write : goal.invariant-loop-write
invariant-loop-write l = AllByRecursion (λ w. w.1.ver ≡ l.epoch) (drop l.write-index l.writes) → AllByRecursion (λ w. w.1.ver ≡ l.epoch) l.writes
