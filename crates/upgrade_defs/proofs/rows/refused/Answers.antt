use Rattle.std.proofs.Common.{refl}
use Rattle.upgrade_defs.proofs.Equations.{the_forms}
use Rattle.upgrade_defs.proofs.rows.refused.Goals as goal

pub returns : goal.returns
returns c = record {
  a_sum_to_the_right = simp the_forms refl;
  old_alone = simp the_forms refl;
  null_in_parentheses = simp the_forms refl;
  minus_null = simp the_forms refl;
  null_in_a_sum = simp the_forms refl;
  a_comparison = simp the_forms refl;
  a_sum_as_a_factor = simp the_forms refl;
}
