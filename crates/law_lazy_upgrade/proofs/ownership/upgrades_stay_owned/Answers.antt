use Rattle.law_lazy_upgrade.proofs.OwnedMaps.{next_level, next_owned}
use Rattle.law_lazy_upgrade.proofs.ownership.upgrades_stay_owned.Goals as goal

pub returns : goal.returns
returns c = record { levels = next_level; owned = next_owned; kinds = λ s L h. h }
