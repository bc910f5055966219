use Rattle.std.proofs.Common.{refl}
use Rattle.rows_language.proofs.TfForms.{tf_forms}
use Rattle.rows_language.proofs.text_rows.upgraded.Goals as goal

pub returns : goal.returns
returns c = record {
  a_literal = simp tf_forms refl;
  a_text_that_is_kept = simp tf_forms refl;
}
