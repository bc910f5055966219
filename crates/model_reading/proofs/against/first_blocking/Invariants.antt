use Rattle.std.proofs.Common.{◌≡◌}
use Rattle.validation_queue.specs.Clashes.{first_some}
use Rattle.repo_refusals.specs.Refusals.{blocks}
use Rattle.model_reading.proofs.against.first_blocking.Given as goal

-- what is left to look at decides
abbrev pub invariant-loop-tx : goal.invariant-loop-tx
invariant-loop-tx l = first_some (blocks l.request) l.tx-iterator ≡ first_some (blocks l.request) l.window.members.pairs
