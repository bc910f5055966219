use Rattle.serial_model.proofs.Replayed.{front_legal}
use Rattle.serial_model.proofs.replay_laws.beginnings_are_legal.Goals as goal

pub returns : goal.returns
returns c = λ s history store n h. front_legal s n history store h
