use Rattle.std.proofs.Common.{◌≡◌}
use Rattle.repo_refusals.specs.Window.{first_decided}
use Rattle.model_reading.proofs.window.Window.first_decided.Given as goal

-- what is left to look at decides
abbrev pub invariant-loop-tx : goal.invariant-loop-tx
invariant-loop-tx l = first_decided l.tx-iterator ≡ first_decided l.self.members.pairs
