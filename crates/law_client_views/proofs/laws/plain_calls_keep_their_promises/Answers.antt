use Rattle.law_client_views.proofs.Meeting.{asks, commits, connects, decides, draws, fetches, finishes, forgets, grants, prepares, receives}
use Rattle.law_client_views.proofs.laws.plain_calls_keep_their_promises.Goals as goal

pub returns : goal.returns
returns c = record {
  connect = connects;
  fetch = fetches;
  grant = grants;
  receive = receives;
  draw = draws;
  prepare = prepares;
  commit_one = commits;
  decide = decides;
  finish = finishes;
  forget = forgets;
  ask = asks;
}
