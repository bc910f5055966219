use Rattle.std.proofs.Common.{◌≡◌, drop}
use Rattle.std.specs.List.{fold}
use Rattle.commit_log.specs.Recovered.{page_above}
use Rattle.repo_state.proofs.writes.page_behind.Given as goal

-- what is left is reached from here
abbrev pub invariant-loop-write : goal.invariant-loop-write
invariant-loop-write l = fold page_above l.behind (drop l.write-index l.writes) ≡ fold page_above l.fn.page l.writes
