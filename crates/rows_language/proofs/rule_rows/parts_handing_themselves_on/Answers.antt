use Rattle.std.proofs.Common.{refl}
use Rattle.class_defs.proofs.RuleForms.{the_forms}
use Rattle.rows_language.proofs.rule_rows.parts_handing_themselves_on.Goals as goal

pub returns : goal.returns
returns c = record {
  this_of_a_part = simp the_forms refl;
  this_of_a_part_beside_null = simp the_forms refl;
  this_of_a_part_in_parentheses = simp the_forms refl;
}
