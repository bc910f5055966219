use Rattle.law_client_views.proofs.Agreed.{connects, fetches, grants, is_gone, receives}
use Rattle.law_client_views.proofs.laws.kept_sessions_keep_promises.Goals as goal

pub returns : goal.returns
returns c = record { connect = connects; fetch = fetches; grant = grants; gone = is_gone; receive = receives }
