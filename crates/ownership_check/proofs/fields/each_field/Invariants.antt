use Rattle.std.proofs.Common.{◌≡◌, take}
use Rattle.std.specs.List.{flat_map}
use Rattle.class_defs.specs.Rules.{least_with}
use Rattle.class_defs.specs.UpgradeRules.{field_rules}
use Rattle.ownership_check.proofs.fields.each_field.Given as goal

-- what those so far break
abbrev pub invariant-loop-field : goal.invariant-loop-field
invariant-loop-field l = l.found ≡ least_with l.fn.found (flat_map (field_rules l.classes l.class) (take l.field-index l.fields))
