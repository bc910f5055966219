use Rattle.law_lazy_upgrade.proofs.OwnedMaps.{one_kinds, one_owned}
use Rattle.law_lazy_upgrade.proofs.ownership.transforms_stay_owned.Goals as goal

pub returns : goal.returns
returns c = record { owned = one_owned; kinds = one_kinds }
