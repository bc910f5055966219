use Rattle.cached_sets.proofs.Ordering.{none_ordered, ordered_from, ordered_marked, ordered_opened, ordered_removed}
use Rattle.cached_sets.proofs.set_laws.sets_stay_ordered.Goals as goal
use Rattle.cached_sets.specs.Sets.{touches}

pub returns : goal.returns
returns c = record {
  begin = none_ordered;
  cached = λ S s page h. ordered_opened S.invalid s h;
  touched = λ S w names k h. ordered_marked S.invalid (touches S.cached w names) k h;
  acknowledged = λ S s upto h. ordered_from S.invalid s upto h;
  dropped = λ S s h. ordered_removed S.invalid s h;
}
