use Rattle.std.proofs.Common.{refl}
use Rattle.class_defs.specs.SchemaRules.{item_rules}
use Rattle.class_defs.proofs.RuleForms.{the_forms}
use Rattle.rows_language.proofs.rule_rows.not_declared.Goals as goal

pub returns : goal.returns
unfolding item_rules
returns c = record {
  a_name_that_is_not_declared = simp the_forms refl;
  a_local_in_its_own_value = simp the_forms refl;
  a_local_behind_its_block = simp the_forms refl;
  a_local_of_then_in_else = simp the_forms refl;
  a_method_of_an_int = simp the_forms refl;
  a_method_of_null = simp the_forms refl;
  a_method_that_the_class_lacks = simp the_forms refl;
  a_class_that_is_not_declared = simp the_forms refl;
  a_type_that_is_not_declared = simp the_forms refl;
  a_name_that_is_assigned_and_is_not_declared = simp the_forms refl;
  an_untold_type_breaks_nothing_more = simp the_forms refl;
  a_call_of_an_untold_value = simp the_forms refl;
  too_many_arguments_one_of_which_breaks_a_rule = simp the_forms refl;
  the_least_line = simp the_forms refl;
  a_root = simp the_forms refl;
  a_field_that_the_class_lacks = simp the_forms refl;
  a_field_that_is_assigned_and_that_the_class_lacks = simp the_forms refl;
}
