use Rattle.std.proofs.Common.{◌∙◌, ap}
use Rattle.class_defs.specs.Rules.{least_with, is_type}
use Rattle.class_defs.specs.declared.classes.Field.{Field}
use Rattle.method_check.proofs.Pieces.{each_more}
use Rattle.method_check.proofs.classes.field_types.Goals as goal

pub loop-field-preserved : goal.loop-field-preserved
loop-field-preserved c =
    let rules = (λ (f : Field). is_type c.args.classes.now f.type_name) in
    c.is_type.ensures
    ∙ ap (λ found. least_with found (rules c.field-item.result)) c.loop-field.invariant
    ∙ each_more rules c.args.fields.now c.loop-field.field-index c.field-item.result c.args.found.now c.loop-field-test.true c.field-item.is
