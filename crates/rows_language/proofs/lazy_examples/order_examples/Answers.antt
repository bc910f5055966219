use Rattle.std.proofs.Common.{refl}
use Rattle.rows_language.proofs.TfForms.{tf_forms}
use Rattle.class_defs.specs.Eager.{value}
use Rattle.rows_language.proofs.lazy_examples.order_examples.Goals as goal

pub returns : goal.returns
unfolding value
returns c = record {
  owner_first = simp tf_forms refl;
  then_the_part = simp tf_forms refl;
  part_first = simp tf_forms refl;
}
