use Rattle.law_lazy_upgrade.proofs.Unseen.{value_below}
use Rattle.law_lazy_upgrade.proofs.lazy.values_are_local.Goals as goal

pub returns : goal.returns
returns c = value_below
