use Rattle.script_check.proofs.OpenedOwned.{opened_owned}
use Rattle.script_check.proofs.opening_laws.opened_stores_are_well_owned.Goals as goal

pub returns : goal.returns
returns c = λ setup repos s sound first. opened_owned setup repos sound s first
