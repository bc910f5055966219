use Rattle.std.proofs.Common.{◌≡◌, None, sym, ◌∙◌}
use Rattle.law_upgrade_rules.proofs.AppliedRules.{rules_behind}
use Rattle.law_upgrade_rules.proofs.KeptByRules.{sound}
use Rattle.class_defs.specs.UpgradeOrder.{own_fault}
use Rattle.ownership_check.proofs.Behind.{as_many}
use Rattle.ownership_check.proofs.checking.own_check.Goals as goal

pub told-requires-clause-few_behind : goal.told-requires-clause-few_behind
told-requires-clause-few_behind c = rw (c.in_ok-behind.ensures, as_many c.args.schema.now.schema c.args.upgrade.now) c.requires.few_classes

pub new-checked-requires : goal.new-checked-requires
new-checked-requires c =
    let schema = c.args.schema.now.schema in
    let repos = c.args.schema.now.repos in
    let items = c.as_slice.result.now in
    let none : own_fault schema repos c.args.upgrade.now items ≡ None = sym c.in_ok-fault.ensures ∙ c.in-None.is in
    rw c.in_ok-behind.ensures
    (rules_behind schema repos c.args.upgrade.now items c.args.schema.now.sound
    (sound schema repos c.args.upgrade.now items none))
