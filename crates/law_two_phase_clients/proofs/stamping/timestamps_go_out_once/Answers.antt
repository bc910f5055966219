use Rattle.law_two_phase_clients.proofs.Stamps.{goes, once, stands, stays}
use Rattle.law_two_phase_clients.proofs.stamping.timestamps_go_out_once.Goals as goal

pub returns : goal.returns
returns c = record {
  goes = λ item old new before after n a z came tries drawn left. goes old new drawn left item before after a z came n tries;
  once = once;
  stands = stands;
  stays = stays;
}
