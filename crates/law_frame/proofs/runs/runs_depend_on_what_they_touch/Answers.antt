use Rattle.law_frame.proofs.TouchedStores.{state_alike, store_alike}
use Rattle.law_frame.proofs.runs.runs_depend_on_what_they_touch.Goals as goal

pub returns : goal.returns
returns c = record { state = state_alike; store = store_alike }
