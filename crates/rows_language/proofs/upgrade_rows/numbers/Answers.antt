use Rattle.std.proofs.Common.{refl}
use Rattle.class_defs.specs.Applied.{applied}
use Rattle.rows_language.proofs.upgrade_rows.numbers.Goals as goal

pub returns : goal.returns
unfolding applied
returns c = record { named = refl; first = refl }
