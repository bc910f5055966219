use Rattle.serial_model.proofs.Replayed.{after_more, goes_on, legal_back, rise_back}
use Rattle.serial_model.proofs.replay_laws.histories_go_on.Goals as goal

pub returns : goal.returns
returns c = record {
  legal = λ s history d store h above is. goes_on s history d store h above is;
  above = λ s history d store h. rise_back history d h.rising;
  entry = λ s history d store h. legal_back s history d store h.each;
  store = λ s history d store. after_more s history d store;
}
