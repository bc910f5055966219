use Rattle.std.proofs.Common.{◌∙◌, ap}
use Rattle.class_defs.specs.Rules.{least_with}
use Rattle.class_defs.specs.SchemaRules.{item_rules}
use Rattle.method_check.proofs.Pieces.{each_more}
use Rattle.ownership_check.proofs.outside.items_outside.Goals as goal

pub loop-item-preserved : goal.loop-item-preserved
loop-item-preserved c =
    let rules = item_rules c.args.schema.now c.args.repos in
    c.in_ok-note_item.ensures.found
    ∙ ap (λ found. least_with found (rules c.item-item.result)) c.loop-item.invariant
    ∙ each_more rules c.args.items.now c.loop-item.item-index c.item-item.result c.args.found.now c.loop-item-test.true c.item-item.is
