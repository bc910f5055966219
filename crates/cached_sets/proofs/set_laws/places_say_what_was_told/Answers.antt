use Rattle.cached_sets.proofs.Places.{acknowledged, dropped, dropped_order, kept_order, none_noted, noted, noted_order}
use Rattle.cached_sets.proofs.set_laws.places_say_what_was_told.Goals as goal
use Rattle.std.proofs.Common.{refl}

pub returns : goal.returns
returns c = record {
  begins = λ s. refl;
  noted = λ S n k s. noted S.noted n k s;
  acknowledged = λ S n upto s h. acknowledged S.noted n upto s h;
  dropped = λ S n s h. dropped S.noted n s h;
  begins_ordered = none_noted;
  noted_ordered = λ S n k h. noted_order S.noted n k h;
  acknowledged_ordered = λ S n upto h. kept_order S.noted n upto h;
  dropped_ordered = λ S n h. dropped_order S.noted n h;
}
