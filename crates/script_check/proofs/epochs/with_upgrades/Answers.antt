use Rattle.std.proofs.Common.{◌∙◌, ap}
use Rattle.std.specs.List.{flat_map}
use Rattle.script_check.specs.Upgrading.{extended, upgrade_in}
use Rattle.script_check.proofs.Extending.{one_more}
use Rattle.script_check.proofs.epochs.with_upgrades.Goals as goal

pub loop-client-preserved : goal.loop-client-preserved
loop-client-preserved c =
    one_more (flat_map upgrade_in) c.args.schemas c.loop-client.schemas _ c.args.clients.now c.loop-client.client-index c.client-item.result c.loop-client-test.true c.client-item.is c.loop-client.invariant
    (c.in_ok-take_items.ensures ∙ ap (λ items. extended c.loop-client.schemas (flat_map upgrade_in items)) c.as_slice.ensures)
