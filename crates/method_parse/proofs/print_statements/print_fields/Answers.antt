use Rattle.std.proofs.Common.{refl}
use Rattle.class_defs.specs.Spelling.{field_words}
use Rattle.method_parse.proofs.Spaced.{turns_end}
use Rattle.method_parse.proofs.print_statements.print_fields.Goals as goal

pub returns : goal.returns
returns c =
    turns_end field_words c.args.fields.now c.args.fields.now c.args.out.now c.loop-field.out c.loop-field.field-index refl c.loop-field-test.false c.loop-field.invariant
