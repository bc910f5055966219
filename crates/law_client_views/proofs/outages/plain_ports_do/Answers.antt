use Rattle.law_client_views.proofs.Stopping.{called_so, commits_so, down_called, left_here, seen_here}
use Rattle.law_client_views.proofs.outages.plain_ports_do.Goals as goal

pub returns : goal.returns
returns c = record {
  called = λ old r after u calm. (called_so old r after u calm, seen_here old r after u, left_here old r after u);
  down = down_called;
  commit_one = commits_so;
}
