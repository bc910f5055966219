use Rattle.std.proofs.Common.{◌≡◌, map, take}
use Rattle.class_defs.specs.Applied.{new_field}
use Rattle.ownership_check.proofs.applied.new_fields.Given as goal

-- those so far
abbrev pub invariant-loop-field : goal.invariant-loop-field
invariant-loop-field l = l.made ≡ map new_field (take l.field-index l.fields)
