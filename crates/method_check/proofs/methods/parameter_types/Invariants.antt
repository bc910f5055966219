use Rattle.std.proofs.Common.{◌≡◌, take}
use Rattle.std.specs.List.{flat_map}
use Rattle.class_defs.specs.Rules.{least_with, is_free_type}
use Rattle.method_check.proofs.methods.parameter_types.Given as goal

-- what those so far break
abbrev pub invariant-loop-parameter : goal.invariant-loop-parameter
invariant-loop-parameter l = l.found ≡ least_with l.fn.found (flat_map (λ p. is_free_type l.classes p.type_name) (take l.parameter-index l.parameters))
