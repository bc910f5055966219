use Rattle.std.proofs.Common.{◌∙◌, ap}
use Rattle.class_defs.specs.Rules.{least_with}
use Rattle.class_defs.specs.SchemaRules.{method_rules}
use Rattle.method_check.proofs.Pieces.{each_more}
use Rattle.method_check.proofs.classes.methods.Goals as goal

pub loop-method-preserved : goal.loop-method-preserved
loop-method-preserved c =
    let rules = (method_rules c.args.schema.now c.args.repos c.args.class) in
    c.in_ok-method_rules.ensures
    ∙ ap (λ found. least_with found (rules c.method-item.result)) c.loop-method.invariant
    ∙ each_more rules c.args.methods.now c.loop-method.method-index c.method-item.result c.args.found.now c.loop-method-test.true c.method-item.is
