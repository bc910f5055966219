use Rattle.law_global_order.proofs.Epochs.{epoch-at-turn}
use Rattle.law_global_order.proofs.Listing.{listed-at}
use Rattle.law_global_order.proofs.laws.epochs_are_joined.Goals as goal

pub returns : goal.returns
returns c = λ S sd at al done e turn r o is. epoch-at-turn S at sd al done turn.0 e (listed-at S sd done turn.0 e turn.1) r o is
