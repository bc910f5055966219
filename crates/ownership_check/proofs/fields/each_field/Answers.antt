use Rattle.std.proofs.Common.{◌∙◌, ap}
use Rattle.class_defs.specs.Rules.{least_with}
use Rattle.class_defs.specs.UpgradeRules.{field_rules}
use Rattle.method_check.proofs.Pieces.{each_more}
use Rattle.ownership_check.proofs.fields.each_field.Goals as goal

pub loop-field-preserved : goal.loop-field-preserved
loop-field-preserved c =
    let rules = field_rules c.args.classes.now c.args.class in
    c.field_rules.ensures
    ∙ ap (λ found. least_with found (rules c.field-item.result)) c.loop-field.invariant
    ∙ each_more rules c.args.fields.now c.loop-field.field-index c.field-item.result c.args.found.now c.loop-field-test.true c.field-item.is
