use Rattle.std.proofs.Common.{refl}
use Rattle.class_defs.proofs.RuleForms.{the_forms}
use Rattle.rows_language.proofs.UpgradeForms.{upgrade_forms}
use Rattle.class_defs.specs.Applied.{applied}
use Rattle.class_defs.specs.SchemaRules.{class_rules, item_rules, method_rules}
use Rattle.class_defs.specs.UpgradeOrder.{inside_rules, outside_rules, own_fault}
use Rattle.class_defs.specs.UpgradeRules.{first_line, gives_int, reads_parts, upgrade_rules}
use Rattle.rows_language.proofs.upgrade_rows.paths.Goals as goal

ruleset forms = (the_forms, upgrade_forms)

pub returns : goal.returns
unfolding own_fault upgrade_rules first_line gives_int reads_parts inside_rules outside_rules applied class_rules item_rules method_rules
returns c = record {
  path_over_a_free_object = simp forms refl;
  path_over_a_part_and_a_free_object = simp forms refl;
  second_path = simp forms refl;
  part_over_a_free_object = simp forms refl;
  field_of_a_class_that_is_not_declared = simp forms refl;
  the_lesser_rule_on_a_line = simp forms refl;
}
