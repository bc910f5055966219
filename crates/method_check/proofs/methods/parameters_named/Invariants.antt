use Rattle.std.proofs.Common.{◌≡◌, map, take}
use Rattle.class_defs.specs.SchemaRules.{parameter_named}
use Rattle.method_check.proofs.methods.parameters_named.Given as goal

-- those so far
abbrev pub invariant-loop-parameter : goal.invariant-loop-parameter
invariant-loop-parameter l = l.locals ≡ map (parameter_named l.classes) (take l.parameter-index l.parameters)
