use Rattle.std.proofs.Common.{◌≡◌, ◌++◌, drop}
use Rattle.class_defs.specs.Calls.{bound_from}
use Rattle.method_eval.proofs.calls.bound.Given as goal

-- the parameters bound so far, and those to come, are all
abbrev pub invariant-loop-place : goal.invariant-loop-place
invariant-loop-place l =
    let classes = l.program.schema.now.classes in
    l.locals ++ bound_from classes l.place (drop l.place l.parameters) l.arguments ≡ bound_from classes 0 l.parameters l.arguments
