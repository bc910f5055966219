use Rattle.std.proofs.Common.{refl}
use Rattle.upgrade_defs.proofs.Equations.{the_forms}
use Rattle.upgrade_defs.proofs.rows.words.Goals as goal

pub returns : goal.returns
returns c = record {
  path = simp the_forms refl;
  two_trees_with_one_spelling = simp the_forms refl;
  an_upgrade = simp the_forms refl;
  the_text_of_an_upgrade = simp the_forms refl;
}
