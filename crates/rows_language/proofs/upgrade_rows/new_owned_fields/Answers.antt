use Rattle.std.proofs.Common.{refl}
use Rattle.class_defs.proofs.RuleForms.{the_forms}
use Rattle.rows_language.proofs.UpgradeForms.{upgrade_forms}
use Rattle.class_defs.specs.Applied.{applied}
use Rattle.class_defs.specs.SchemaRules.{class_rules, item_rules, method_rules}
use Rattle.class_defs.specs.UpgradeOrder.{inside_rules, outside_rules, own_fault}
use Rattle.class_defs.specs.UpgradeRules.{first_line, gives_int, reads_parts, upgrade_rules}
use Rattle.rows_language.proofs.upgrade_rows.new_owned_fields.Goals as goal

ruleset forms = (the_forms, upgrade_forms)

pub returns : goal.returns
unfolding own_fault upgrade_rules first_line gives_int reads_parts inside_rules outside_rules applied class_rules item_rules method_rules
returns c = record {
  number_for_a_part = simp forms refl;
  part_of_another_class = simp forms refl;
  part_of_a_part = simp forms refl;
  part_in_parentheses = simp forms refl;
  one_part_for_fields_of_two_classes = simp forms refl;
  what_does_not_fit_is_not_handed_over = simp forms refl;
  null_for_a_part = simp forms refl;
}
