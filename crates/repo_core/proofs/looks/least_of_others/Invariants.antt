use Rattle.repo_core.proofs.Others.{Passed}
use Rattle.repo_core.proofs.looks.least_of_others.Given as goal
use Rattle.std.proofs.Common.{length}
use Rattle.thor_value.specs.Names.{ts_cmp}
use Rattle.two_phase.specs.Walks.{behind}

-- what was walked over is the repository's own
abbrev pub invariant-loop-request : goal.invariant-loop-request
invariant-loop-request l = Passed l.repo l.table l.after

abbrev pub decreases-loop-request : goal.decreases-loop-request
decreases-loop-request l = length (behind ts_cmp l.after l.table.transactions.pairs)
