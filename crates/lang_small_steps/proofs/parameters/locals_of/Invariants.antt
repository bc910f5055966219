use Rattle.std.proofs.Common.{◌≡◌, ◌++◌, drop}
use Rattle.lang_small_steps.specs.Typed.{locals_from}
use Rattle.lang_small_steps.proofs.parameters.locals_of.Given as goal

-- the parameters bound so far, and those to come, are all
abbrev pub invariant-loop-place : goal.invariant-loop-place
invariant-loop-place l = l.locals ++ locals_from l.place (drop l.place l.parameters) l.arguments ≡ locals_from 0 l.parameters l.arguments
