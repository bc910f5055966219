use Rattle.std.proofs.Common.{drop}
use Rattle.std.specs.List.{AllByRecursion}
use Rattle.thor_value.specs.Spelling.{ValueFits}
use Rattle.repo_core.proofs.request_form.are_values.Given as goal

-- the rest decides
abbrev pub invariant-loop-value : goal.invariant-loop-value
invariant-loop-value l = AllByRecursion ValueFits (drop l.value-index l.values) → AllByRecursion ValueFits l.values
