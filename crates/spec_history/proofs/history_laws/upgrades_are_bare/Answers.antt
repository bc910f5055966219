use Rattle.spec_history.proofs.Vouched.{upgrades}
use Rattle.spec_history.proofs.history_laws.upgrades_are_bare.Goals as goal

pub returns : goal.returns
returns c = upgrades
