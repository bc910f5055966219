use Rattle.std.proofs.Common.{refl}
use Rattle.class_defs.specs.SchemaRules.{item_rules}
use Rattle.class_defs.proofs.RuleForms.{the_forms}
use Rattle.rows_language.proofs.rule_rows.parts_made_elsewhere.Goals as goal

pub returns : goal.returns
unfolding item_rules
returns c = record {
  a_part_that_is_made = simp the_forms refl;
  a_part_that_is_made_to_be_called = simp the_forms refl;
  a_repository_that_is_not_there = simp the_forms refl;
  a_new_part_for_a_field_that_the_class_lacks = simp the_forms refl;
  at_in_a_method = simp the_forms refl;
}
