use Rattle.std.proofs.Common.{◌≡◌, take}
use Rattle.std.specs.List.{flat_map}
use Rattle.class_defs.specs.Rules.{least_with, is_type}
use Rattle.method_check.proofs.classes.field_types.Given as goal

-- what those so far break
abbrev pub invariant-loop-field : goal.invariant-loop-field
invariant-loop-field l = l.found ≡ least_with l.fn.found (flat_map (λ f. is_type l.classes f.type_name) (take l.field-index l.fields))
