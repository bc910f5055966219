use Rattle.std.proofs.Common.{◌≡◌, ◌++◌, take}
use Rattle.std.specs.List.{flat_map}
use Rattle.class_defs.specs.Spelling.{field_words}
use Rattle.method_parse.proofs.Spaced.{one_text}
use Rattle.method_parse.proofs.print_statements.print_fields.Given as goal

-- the words of those so far
abbrev pub invariant-loop-field : goal.invariant-loop-field
invariant-loop-field l = l.out ≡ l.fn.out ++ flat_map (one_text field_words) (take l.field-index l.fields)
