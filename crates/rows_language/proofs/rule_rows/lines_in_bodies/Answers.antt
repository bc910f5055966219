use Rattle.std.proofs.Common.{refl}
use Rattle.class_defs.proofs.RuleForms.{the_forms}
use Rattle.rows_language.proofs.rule_rows.lines_in_bodies.Goals as goal

pub returns : goal.returns
returns c = record {
  part_given_to_itself = simp the_forms refl;
  part_made_and_called = simp the_forms refl;
  at_in_a_method = simp the_forms refl;
}
