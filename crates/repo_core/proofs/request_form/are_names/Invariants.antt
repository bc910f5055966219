use Rattle.std.proofs.Common.{drop}
use Rattle.std.specs.List.{AllByRecursion}
use Rattle.thor_value.specs.Spelling.{OrefFits}
use Rattle.repo_core.proofs.request_form.are_names.Given as goal

-- the rest decides
abbrev pub invariant-loop-name : goal.invariant-loop-name
invariant-loop-name l = AllByRecursion OrefFits (drop l.name-index l.names) → AllByRecursion OrefFits l.names
