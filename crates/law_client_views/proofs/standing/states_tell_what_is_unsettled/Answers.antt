use Rattle.law_client_views.proofs.Restarted.{comes_up, fails}
use Rattle.law_client_views.proofs.Restarting.{restarts_grow, stops_grow}
use Rattle.law_client_views.proofs.standing.states_tell_what_is_unsettled.Goals as goal

pub returns : goal.returns
returns c = record {
  restart = restarts_grow;
  stop = stops_grow;
  comes_up = λ b x y p q h does. comes_up b x p h y q does.0 does.1;
  fails = λ b x y p q h does. fails b x p h y q does;
}
