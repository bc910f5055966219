use Rattle.std.proofs.Common.{refl}
use Rattle.class_defs.specs.UpgradeOrder.{own_fault}
use Rattle.class_defs.specs.UpgradeRules.{upgrade_rules}
use Rattle.rows_language.proofs.upgrade_rows.classes_named.Goals as goal

pub returns : goal.returns
unfolding own_fault upgrade_rules
returns c = record { class_that_is_not_there = refl; class_that_is_named_twice = refl }
