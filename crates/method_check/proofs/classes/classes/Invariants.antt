use Rattle.std.proofs.Common.{◌≡◌, drop}
use Rattle.class_defs.specs.Rules.{least_with}
use Rattle.class_defs.specs.SchemaRules.{classes_from}
use Rattle.method_check.proofs.classes.classes.Given as goal

-- the classes to come break, beside what was found so far, what all break
abbrev pub invariant-loop-place : goal.invariant-loop-place
invariant-loop-place l =
    least_with l.found (classes_from l.schema l.repos l.place (drop l.place l.schema.classes)) ≡ least_with l.fn.found (classes_from l.schema l.repos 0 l.schema.classes)
