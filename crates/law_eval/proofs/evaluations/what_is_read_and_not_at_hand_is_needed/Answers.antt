use Rattle.law_eval.proofs.Exactly.{done_or_needed, needed_there}
use Rattle.law_eval.proofs.evaluations.what_is_read_and_not_at_hand_is_needed.Goals as goal

pub returns : goal.returns
returns c = record { exactly = done_or_needed; there = needed_there }
