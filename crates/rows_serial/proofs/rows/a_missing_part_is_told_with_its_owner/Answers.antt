use Rattle.rows_serial.proofs.Missing.{above, meets, needs}
use Rattle.rows_serial.proofs.rows.a_missing_part_is_told_with_its_owner.Goals as goal

pub returns : goal.returns
returns c = record { meets = meets; needs = needs; above = above }
