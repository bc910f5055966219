use Rattle.law_ownership.proofs.Plainly.{store-fits}
use Rattle.law_ownership.proofs.laws.maps_that_fit_stand_for_stores_that_fit.Goals as goal

pub returns : goal.returns
returns c = λ s N schema repos epoch rules keeps fits stand. store-fits s N schema repos epoch rules keeps fits stand
