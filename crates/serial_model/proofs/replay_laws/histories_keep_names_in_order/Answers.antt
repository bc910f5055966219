use Rattle.serial_model.proofs.Replayed.{after_sorted}
use Rattle.serial_model.proofs.replay_laws.histories_keep_names_in_order.Goals as goal

pub returns : goal.returns
returns c = λ s history store h. after_sorted s history store h
