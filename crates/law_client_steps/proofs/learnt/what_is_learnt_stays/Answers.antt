use Rattle.law_client_steps.proofs.Rising.{above, rises}
use Rattle.law_client_steps.proofs.learnt.what_is_learnt_stays.Goals as goal

pub returns : goal.returns
returns c = record {
  bounds = rises;
  too_old = λ a z between before threshold. above a z between before threshold.time;
  later = λ a z between before other x. above a z between before other.time;
}
