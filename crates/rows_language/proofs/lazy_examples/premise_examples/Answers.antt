use Rattle.rows_language.proofs.MixedOwned.{mixed_kinds, mixed_owned, part_first}
use Rattle.rows_language.proofs.TwiceKeeps.{twice_keeps}
use Rattle.rows_language.proofs.lazy_examples.premise_examples.Goals as goal

pub returns : goal.returns
returns c = record { upgrades = twice_keeps; well_owned = mixed_owned; kinds = mixed_kinds; part_first = part_first }
