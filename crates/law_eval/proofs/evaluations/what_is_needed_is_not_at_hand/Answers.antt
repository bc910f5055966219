use Rattle.law_eval.proofs.Told.{all_fresh, all_read, name_needed, needed, owners_needed}
use Rattle.law_eval.proofs.evaluations.what_is_needed_is_not_at_hand.Goals as goal

pub returns : goal.returns
returns c = record { need = needed; owners = owners_needed; read = all_read; name = name_needed; fresh = all_fresh }
