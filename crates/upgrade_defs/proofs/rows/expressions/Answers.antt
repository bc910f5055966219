use Rattle.std.proofs.Common.{refl}
use Rattle.upgrade_defs.proofs.Equations.{the_forms}
use Rattle.upgrade_defs.proofs.rows.expressions.Goals as goal

pub returns : goal.returns
returns c = record {
  null = simp the_forms refl;
  a_number = simp the_forms refl;
  a_path = simp the_forms refl;
  a_sum_to_the_left = simp the_forms refl;
  minus_twice = simp the_forms refl;
  parentheses = simp the_forms refl;
}
