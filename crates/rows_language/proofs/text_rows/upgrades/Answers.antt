use Rattle.std.proofs.Common.{refl}
use Rattle.class_defs.proofs.RuleForms.{the_forms}
use Rattle.rows_language.proofs.UpgradeForms.{upgrade_forms}
use Rattle.class_defs.specs.Applied.{applied}
use Rattle.class_defs.specs.SchemaRules.{class_rules, item_rules, method_rules}
use Rattle.class_defs.specs.UpgradeOrder.{inside_rules, outside_rules, own_fault}
use Rattle.class_defs.specs.UpgradeRules.{first_line, gives_int, reads_parts, upgrade_rules}
use Rattle.rows_language.proofs.text_rows.upgrades.Goals as goal

ruleset forms = (the_forms, upgrade_forms)

pub returns : goal.returns
unfolding own_fault upgrade_rules first_line gives_int reads_parts inside_rules outside_rules applied class_rules item_rules method_rules
returns c = record {
  a_literal = simp forms refl;
  a_text_that_is_kept = simp forms refl;
  one_text_for_two_fields = simp forms refl;
  a_number_for_a_text = simp forms refl;
  null_for_a_text = simp forms refl;
  a_text_in_parentheses = simp forms refl;
  field_that_the_class_lacks = simp forms refl;
  path_through_a_text = simp forms refl;
  a_literal_for_an_int = simp forms refl;
  a_text_for_an_int = simp forms refl;
  a_text_in_a_sum = simp forms refl;
}
