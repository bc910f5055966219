use Rattle.std.proofs.Common.{refl}
use Rattle.class_defs.proofs.RuleForms.{the_forms}
use Rattle.rows_language.proofs.UpgradeForms.{upgrade_forms}
use Rattle.class_defs.specs.Applied.{applied}
use Rattle.class_defs.specs.SchemaRules.{class_rules, item_rules, method_rules}
use Rattle.class_defs.specs.UpgradeOrder.{inside_rules, outside_rules, own_fault}
use Rattle.class_defs.specs.UpgradeRules.{first_line, gives_int, reads_parts, upgrade_rules}
use Rattle.rows_language.proofs.upgrade_rows.new_references.Goals as goal

ruleset forms = (the_forms, upgrade_forms)

pub returns : goal.returns
unfolding own_fault upgrade_rules first_line gives_int reads_parts inside_rules outside_rules applied class_rules item_rules method_rules
returns c = record {
  number_for_a_reference = simp forms refl;
  field_that_the_class_lacks = simp forms refl;
  int_for_a_reference = simp forms refl;
  part_for_a_free_object = simp forms refl;
  reference_of_a_part = simp forms refl;
  reference_in_parentheses = simp forms refl;
  reference_that_is_kept = simp forms refl;
  null_for_a_reference = simp forms refl;
}
