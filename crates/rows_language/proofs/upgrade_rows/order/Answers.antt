use Rattle.std.proofs.Common.{refl}
use Rattle.class_defs.proofs.RuleForms.{the_forms}
use Rattle.rows_language.proofs.UpgradeForms.{upgrade_forms}
use Rattle.class_defs.specs.Applied.{applied}
use Rattle.class_defs.specs.SchemaRules.{class_rules, item_rules, method_rules}
use Rattle.class_defs.specs.UpgradeOrder.{inside_rules, outside_rules, own_fault}
use Rattle.class_defs.specs.UpgradeRules.{first_line, gives_int, reads_parts, upgrade_rules}
use Rattle.rows_language.proofs.upgrade_rows.order.Goals as goal

ruleset forms = (the_forms, upgrade_forms)

pub returns : goal.returns
unfolding own_fault upgrade_rules first_line gives_int reads_parts inside_rules outside_rules applied class_rules item_rules method_rules
returns c = record {
  field_of_a_name_twice = simp forms refl;
  type_that_is_not_declared = simp forms refl;
  inside_before_outside = simp forms refl;
  later_line_of_an_own_rule = simp forms refl;
  least_line = simp forms refl;
}
