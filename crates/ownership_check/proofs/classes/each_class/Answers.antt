use Rattle.std.proofs.Common.{◌∙◌, ap}
use Rattle.class_defs.specs.Rules.{least_with}
use Rattle.class_defs.specs.UpgradeRules.{class_upgrade_rules}
use Rattle.method_check.proofs.Pieces.{each_more}
use Rattle.ownership_check.proofs.classes.each_class.Goals as goal

pub loop-class-preserved : goal.loop-class-preserved
loop-class-preserved c =
    let rules = class_upgrade_rules c.args.classes.now in
    c.in_ok-class_upgrade_rules.ensures
    ∙ ap (λ found. least_with found (rules c.class-item.result)) c.loop-class.invariant
    ∙ each_more rules c.args.said.now c.loop-class.class-index c.class-item.result c.args.found.now c.loop-class-test.true c.class-item.is
