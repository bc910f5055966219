use Rattle.std.proofs.Common.{refl}
use Rattle.class_defs.proofs.RuleForms.{the_forms}
use Rattle.rows_language.proofs.UpgradeForms.{upgrade_forms}
use Rattle.class_defs.specs.Applied.{applied}
use Rattle.class_defs.specs.SchemaRules.{class_rules, item_rules, method_rules}
use Rattle.class_defs.specs.UpgradeOrder.{inside_rules, outside_rules, own_fault}
use Rattle.class_defs.specs.UpgradeRules.{first_line, gives_int, reads_parts, upgrade_rules}
use Rattle.rows_language.proofs.upgrade_rows.new_ints.Goals as goal

ruleset forms = (the_forms, upgrade_forms)

pub returns : goal.returns
unfolding own_fault upgrade_rules first_line gives_int reads_parts inside_rules outside_rules applied class_rules item_rules method_rules
returns c = record {
  null_for_an_int = simp forms refl;
  field_that_the_class_lacks = simp forms refl;
  field_that_a_part_lacks = simp forms refl;
  path_through_an_int = simp forms refl;
  path_that_ends_in_a_reference = simp forms refl;
  path_that_ends_in_a_part = simp forms refl;
  path_of_nine_names = simp forms refl;
  path_of_eight_names = simp forms refl;
  sum_of_parts = simp forms refl;
}
