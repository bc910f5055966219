use Rattle.rows_serial.proofs.Opened.{are-checked, are-here, is-opening, opening-fits}
use Rattle.rows_serial.proofs.Rests.{each-rests}
use Rattle.rows_serial.proofs.Standing.{are_alike, are_sound, is_atomic}
use Rattle.rows_serial.proofs.rows.a_run_meets_the_premises.Goals as goal

pub returns : goal.returns
returns c = record {
  sound = are_sound;
  atomic = is_atomic;
  alike = are_alike;
  rests = each-rests;
  opening = is-opening;
  here = are-here;
  fits = opening-fits;
  checked = are-checked;
}
