use Rattle.law_client_steps.proofs.Quieting.{changes_all, stay_quiet, waits_quiet}
use Rattle.law_client_steps.proofs.quiet.links_stay_quiet.Goals as goal

pub returns : goal.returns
returns c = record {
  step = stay_quiet;
  waits = λ old new links running known same grew seen. waits_quiet old new known same grew seen links running;
  ended = changes_all;
}
