use Rattle.std.proofs.Common.{◌∙◌, ap}
use Rattle.class_defs.specs.Rules.{least_with, is_free_type}
use Rattle.class_defs.specs.declared.classes.Parameter.{Parameter}
use Rattle.method_check.proofs.Pieces.{each_more}
use Rattle.method_check.proofs.methods.parameter_types.Goals as goal

pub loop-parameter-preserved : goal.loop-parameter-preserved
loop-parameter-preserved c =
    let rules = (λ (p : Parameter). is_free_type c.args.classes.now p.type_name) in
    c.is_free_type.ensures
    ∙ ap (λ found. least_with found (rules c.parameter-item.result)) c.loop-parameter.invariant
    ∙ each_more rules c.args.parameters.now c.loop-parameter.parameter-index c.parameter-item.result c.args.found.now c.loop-parameter-test.true c.parameter-item.is
