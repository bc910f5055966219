use Rattle.std.proofs.Common.{refl}
use Rattle.class_defs.proofs.RuleForms.{the_forms}
use Rattle.rows_language.proofs.text_rows.refused.Goals as goal

pub returns : goal.returns
returns c = record {
  a_sum = simp the_forms refl;
  less = simp the_forms refl;
  beside_a_number = simp the_forms refl;
  beside_null = simp the_forms refl;
  minus = simp the_forms refl;
  a_number_assigned = simp the_forms refl;
  null_assigned = simp the_forms refl;
  a_condition = simp the_forms refl;
  a_receiver = simp the_forms refl;
}
