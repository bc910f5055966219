use Rattle.std.proofs.Common.{refl}
use Rattle.class_defs.proofs.RuleForms.{the_forms}
use Rattle.rows_language.proofs.text_rows.accepted.Goals as goal

pub returns : goal.returns
returns c = record {
  a_text_printed = simp the_forms refl;
  a_literal_printed = simp the_forms refl;
  two_texts = simp the_forms refl;
  assigned = simp the_forms refl;
}
