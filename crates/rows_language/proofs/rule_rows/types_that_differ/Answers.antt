use Rattle.std.proofs.Common.{refl}
use Rattle.class_defs.specs.SchemaRules.{item_rules}
use Rattle.class_defs.proofs.RuleForms.{the_forms}
use Rattle.rows_language.proofs.rule_rows.types_that_differ.Goals as goal

pub returns : goal.returns
unfolding item_rules
returns c = record {
  an_operator_with_a_reference = simp the_forms refl;
  less_of_null = simp the_forms refl;
  minus_of_a_reference = simp the_forms refl;
  a_number_beside_null = simp the_forms refl;
  null_beside_null = simp the_forms refl;
  null_in_parentheses_beside_null = simp the_forms refl;
  a_condition_that_is_a_reference = simp the_forms refl;
  a_printed_reference = simp the_forms refl;
  a_printed_null = simp the_forms refl;
  a_root_is_assigned = simp the_forms refl;
  null_for_an_int = simp the_forms refl;
  a_number_for_a_reference = simp the_forms refl;
  an_argument_of_another_type = simp the_forms refl;
  a_result_of_another_type = simp the_forms refl;
  a_result_that_is_null = simp the_forms refl;
  a_number_for_an_owned_field = simp the_forms refl;
  a_part_that_is_kept_for_a_number = simp the_forms refl;
  a_part_that_is_given_back_for_a_number = simp the_forms refl;
  two_parts_side_by_side = simp the_forms refl;
  an_owned_field_as_an_argument = simp the_forms refl;
  a_new_part_for_a_number = simp the_forms refl;
  a_new_free_object_for_an_owned_field = simp the_forms refl;
}
