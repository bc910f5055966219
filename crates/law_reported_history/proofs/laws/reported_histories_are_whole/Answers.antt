use Rattle.law_reported_history.proofs.Told.{is-whole}
use Rattle.law_reported_history.proofs.laws.reported_histories_are_whole.Goals as goal

pub returns : goal.returns
returns c = is-whole
