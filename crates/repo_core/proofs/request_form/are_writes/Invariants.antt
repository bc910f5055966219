use Rattle.std.proofs.Common.{drop}
use Rattle.std.specs.List.{AllByRecursion}
use Rattle.log_entries.specs.RequestForm.{WriteFits}
use Rattle.repo_core.proofs.request_form.are_writes.Given as goal

-- the rest decides
abbrev pub invariant-loop-write : goal.invariant-loop-write
invariant-loop-write l = AllByRecursion WriteFits (drop l.write-index l.writes) → AllByRecursion WriteFits l.writes
