use Rattle.law_serializability.proofs.Checked.{runs_checked}
use Rattle.law_serializability.proofs.Serial.{serial_all}
use Rattle.rows_serial.proofs.Opened.{are-checked, are-here, is-opening, opening-fits}
use Rattle.rows_serial.proofs.Rests.{each-rests}
use Rattle.rows_serial.proofs.Standing.{are_alike, are_sound, is_atomic}
use Rattle.rows_serial.specs.Rows.{items, opening, roots, run, schemas}
use Rattle.std.proofs.Common.{refl}
use Rattle.law_global_order.proofs.Listing.{listed}
use Rattle.law_global_order.specs.Whole.{commits}
use Rattle.rows_serial.proofs.rows.a_run_is_serial.Goals as goal

pub returns : goal.returns
returns c = record {
  legal = (serial_all schemas items roots run are_sound is_atomic are_alike opening is-opening each-rests (λ done rest t w k h is rest_on fit. runs_checked schemas items roots run are_sound is_atomic are_alike opening is-opening are-checked are-here done rest t w k h rest_on opening-fits.keeps fit) opening-fits (commits run).pairs (listed run are_sound)).0;
  commits = refl;
  entries = refl;
  part = refl;
  added = refl;
}
