use Rattle.law_lazy_upgrade.proofs.OwnedMaps.{all_kinds, all_owned, all_owns}
use Rattle.law_lazy_upgrade.proofs.ownership.eager_stays_owned.Goals as goal

pub returns : goal.returns
returns c = record {
  owned = all_owned;
  owners = λ s L a i z keeps owned o. all_owns s L keeps owned a i z o;
  kinds = all_kinds;
}
