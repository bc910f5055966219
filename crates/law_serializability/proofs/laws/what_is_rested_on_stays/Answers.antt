use Rattle.law_serializability.proofs.Resting.{rests_on}
use Rattle.law_serializability.proofs.laws.what_is_rested_on_stays.Goals as goal

pub returns : goal.returns
returns c = λ s items roots S r e sd go t w h k rests. rests_on S r e sd go t w h s items roots k rests
