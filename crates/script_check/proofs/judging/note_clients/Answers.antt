use Rattle.std.proofs.Common.{◌∙◌, ap}
use Rattle.class_defs.specs.Rules.{least_with}
use Rattle.method_check.proofs.Pieces.{each_more}
use Rattle.script_check.specs.Judging.{items_rules}
use Rattle.script_check.proofs.judging.note_clients.Goals as goal

pub loop-client-preserved : goal.loop-client-preserved
loop-client-preserved c =
    let rules = (items_rules c.args.schema.now c.args.repos) in
    c.in_ok-note_items.ensures
    ∙ ap (λ items. least_with c.loop-client.found (rules items)) c.as_slice.ensures
    ∙ ap (λ found. least_with found (rules c.client-item.result)) c.loop-client.invariant
    ∙ each_more rules c.args.clients.now c.loop-client.client-index c.client-item.result c.args.found.now c.loop-client-test.true c.client-item.is
