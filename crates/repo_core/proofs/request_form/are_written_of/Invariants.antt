use Rattle.std.proofs.Common.{drop, ◌≡◌}
use Rattle.commit_log.specs.Recovered.{are_of}
use Rattle.repo_core.proofs.request_form.are_written_of.Given as goal

-- the rest decides
abbrev pub invariant-loop-write : goal.invariant-loop-write
invariant-loop-write l = are_of l.repo (drop l.write-index l.writes) ≡ are_of l.repo l.writes
