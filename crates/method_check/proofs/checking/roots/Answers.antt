use Rattle.std.proofs.Common.{◌∙◌, ap}
use Rattle.class_defs.specs.Rules.{least_with}
use Rattle.class_defs.specs.SchemaRules.{root_rules}
use Rattle.method_check.proofs.Pieces.{each_more}
use Rattle.method_check.proofs.checking.roots.Goals as goal

pub loop-root-preserved : goal.loop-root-preserved
loop-root-preserved c =
    let rules = (root_rules c.args.classes.now c.args.repos) in
    c.root_rules.ensures
    ∙ ap (λ found. least_with found (rules c.root-item.result)) c.loop-root.invariant
    ∙ each_more rules c.args.roots.now c.loop-root.root-index c.root-item.result c.args.found.now c.loop-root-test.true c.root-item.is
