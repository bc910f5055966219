use Rattle.std.proofs.Common.{drop}
use Rattle.std.specs.Int.{w64}
use Rattle.std.specs.List.{AllByRecursion}
use Rattle.std.specs.Prelude.{FitsSigned}
use Rattle.repo_core.proofs.request_form.are_numbers.Given as goal

-- the rest decides
abbrev pub invariant-loop-number : goal.invariant-loop-number
invariant-loop-number l = AllByRecursion (FitsSigned w64) (drop l.number-index l.numbers) → AllByRecursion (FitsSigned w64) l.numbers
