use Rattle.store_check.proofs.Whole.{each_name_fits, of_their_classes, well_owned}
use Rattle.store_check.proofs.laws.maps_fit_by_names.Goals as goal

pub returns-clause-whole : goal.returns-clause-whole
returns-clause-whole c = λ s L all. (well_owned s L all, of_their_classes s L all)

pub returns-clause-each : goal.returns-clause-each
returns-clause-each c = λ s L owned kinds x. each_name_fits s L owned kinds x
