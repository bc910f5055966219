use Rattle.std.proofs.Common.{refl}
use Rattle.class_defs.specs.Levels.{greatest, lags}
use Rattle.rows_language.proofs.lazy_examples.level_examples.Goals as goal

pub returns : goal.returns
unfolding greatest lags
returns c = record {
  changed_by_the_first = refl;
  written_behind_the_first = refl;
  not_named = refl;
  due = refl;
  not_due = refl;
  not_due_before = refl;
}
