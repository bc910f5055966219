use Rattle.std.proofs.Common.{refl}
use Rattle.class_defs.specs.SchemaRules.{item_rules}
use Rattle.class_defs.proofs.RuleForms.{the_forms}
use Rattle.rows_language.proofs.rule_rows.accepted.Goals as goal

pub returns : goal.returns
unfolding item_rules
returns c = record {
  nothing_is_broken_in_nothing = refl;
  a_call_of_a_root = simp the_forms refl;
  an_argument_that_is_a_number = simp the_forms refl;
  a_local_in_a_block_inside = simp the_forms refl;
  a_reference_beside_null = simp the_forms refl;
  two_references_of_a_free_class = simp the_forms refl;
  a_repository_that_is_there = simp the_forms refl;
  a_field = simp the_forms refl;
  a_part_that_is_called = simp the_forms refl;
  a_part_beside_null = simp the_forms refl;
  a_new_part_for_an_owned_field = simp the_forms refl;
  null_for_an_owned_field = simp the_forms refl;
  this_of_a_free_class = simp the_forms refl;
  this_of_a_part_that_is_called = simp the_forms refl;
  a_local_with_a_roots_name = simp the_forms refl;
}
