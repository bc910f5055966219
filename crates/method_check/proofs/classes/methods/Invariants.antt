use Rattle.std.proofs.Common.{◌≡◌, take}
use Rattle.std.specs.List.{flat_map}
use Rattle.class_defs.specs.Rules.{least_with}
use Rattle.class_defs.specs.SchemaRules.{method_rules}
use Rattle.method_check.proofs.classes.methods.Given as goal

-- what those so far break
abbrev pub invariant-loop-method : goal.invariant-loop-method
invariant-loop-method l = l.found ≡ least_with l.fn.found (flat_map (method_rules l.schema l.repos l.class) (take l.method-index l.methods))
