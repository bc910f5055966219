use Rattle.script_check.proofs.OpenedFits.{opened_fits}
use Rattle.script_check.proofs.opening_laws.opened_stores_fit.Goals as goal

pub returns : goal.returns
returns c = λ setup repos sound. opened_fits setup repos sound
