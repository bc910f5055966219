use Rattle.std.proofs.Common.{refl}
use Rattle.class_defs.proofs.RuleForms.{the_forms}
use Rattle.rows_language.proofs.rule_rows.owned_fields_handed_on.Goals as goal

pub returns : goal.returns
returns c = record {
  an_owned_field_that_is_read = simp the_forms refl;
  an_owned_field_in_parentheses = simp the_forms refl;
  a_part_beside_null_in_parentheses = simp the_forms refl;
  an_owned_field_for_itself = simp the_forms refl;
}
