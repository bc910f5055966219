use Rattle.law_global_order.proofs.Fresh.{fresh-at-turn}
use Rattle.law_global_order.proofs.Listing.{listed-at}
use Rattle.law_global_order.proofs.laws.created_objects_are_fresh.Goals as goal

pub returns : goal.returns
returns c = λ S sd at done e turn r o x is new wrote none. fresh-at-turn S at sd done turn.0 e (listed-at S sd done turn.0 e turn.1) r o x is new wrote none
