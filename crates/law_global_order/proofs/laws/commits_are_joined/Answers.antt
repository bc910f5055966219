use Rattle.law_global_order.proofs.Listing.{listed-at}
use Rattle.law_global_order.proofs.Turns.{joined_at_turn}
use Rattle.law_global_order.proofs.laws.commits_are_joined.Goals as goal

pub returns : goal.returns
returns c = λ S sd at done e turn r o x is read. joined_at_turn S at sd done turn.0 e (listed-at S sd done turn.0 e turn.1) r o x is read
