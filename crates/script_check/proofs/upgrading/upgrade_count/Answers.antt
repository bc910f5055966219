use Rattle.std.proofs.Common.{◌∙◌, ap, length, min}
use Rattle.std.specs.List.{flat_map}
use Rattle.script_check.specs.Upgrading.{upgrade_in}
use Rattle.script_check.proofs.UpgradingLaws.{counted}
use Rattle.script_check.proofs.upgrading.upgrade_count.Goals as goal

pub loop-client-preserved : goal.loop-client-preserved
loop-client-preserved c =
    c.saturating_add-count.ensures
    ∙ counted (flat_map upgrade_in) c.args.clients.now c.loop-client.client-index c.client-item.result c.loop-client.count c.upgrades_in.result c.loop-client-test.true c.client-item.is c.loop-client.invariant
    (c.upgrades_in.ensures ∙ ap (λ items. min (length (flat_map upgrade_in items)) 18446744073709551615) c.as_slice.ensures)
