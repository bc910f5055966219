use Rattle.law_client_views.proofs.Grown.{both_grew, calm_growth, halts, none_grew}
use Rattle.law_client_views.proofs.laws.growth_composes.Goals as goal

pub returns : goal.returns
returns c = record { none = none_grew; both = both_grew; calm = calm_growth; halts = halts }
