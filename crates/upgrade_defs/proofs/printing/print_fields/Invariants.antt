use Rattle.std.proofs.Common.{◌≡◌, ◌++◌, take}
use Rattle.std.specs.List.{flat_map}
use Rattle.method_parse.proofs.Spaced.{one_text}
use Rattle.upgrade_defs.specs.Spelling.{field_upgrade_words}
use Rattle.upgrade_defs.proofs.printing.print_fields.Given as goal

-- the words of those so far
abbrev pub invariant-loop-field : goal.invariant-loop-field
invariant-loop-field l = l.out ≡ l.fn.out ++ flat_map (one_text field_upgrade_words) (take l.field-index l.fields)
