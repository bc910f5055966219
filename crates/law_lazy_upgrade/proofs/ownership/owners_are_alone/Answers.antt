use Rattle.law_lazy_upgrade.proofs.OwnedMaps.{near_above, one_above, owned_part}
use Rattle.law_lazy_upgrade.proofs.ownership.owners_are_alone.Goals as goal

pub returns : goal.returns
returns c = record {
  one = λ s L n a b z owned. one_above s L owned n a b z;
  near = λ s L n a z owned. near_above s L owned n a z;
  parts = λ s L a i z owned. owned_part s L owned a i z;
}
