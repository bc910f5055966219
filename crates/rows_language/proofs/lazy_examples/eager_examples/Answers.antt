use Rattle.std.proofs.Common.{refl}
use Rattle.rows_language.proofs.TfForms.{tf_forms}
use Rattle.class_defs.specs.Eager.{value}
use Rattle.rows_language.proofs.lazy_examples.eager_examples.Goals as goal

pub returns : goal.returns
unfolding value
returns c = record {
  reads_the_old_part = simp tf_forms refl;
  part = simp tf_forms refl;
  part_between = refl;
  path_through_null = simp tf_forms refl;
  two_upgrades_at_once = simp tf_forms refl;
  one_of_two_upgrades = simp tf_forms refl;
  not_named = refl;
}
