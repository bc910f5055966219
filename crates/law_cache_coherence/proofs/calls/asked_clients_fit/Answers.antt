use Rattle.law_cache_coherence.proofs.Working.{fetched, granted, marked_fits, unmarked_fits}
use Rattle.law_cache_coherence.proofs.calls.asked_clients_fit.Goals as goal

pub returns : goal.returns
returns c = record {
  fetch = λ client b committed at after u kept page sd none h. fetched client b committed at after u kept sd none h page;
  fetch_refused = λ client b committed at after u kept page r sd none h. unmarked_fits client b committed at after u kept sd none h r;
  grant = λ client b committed at after u kept sd none h. granted client b committed at after u kept sd none h;
  grant_refused = λ client b committed at after u kept r sd none h. marked_fits client b committed at after u kept sd none h r;
}
