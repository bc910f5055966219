use Rattle.law_cache_coherence.proofs.Working.{none_came, received, unmarked_fits}
use Rattle.law_cache_coherence.proofs.calls.receiving_clients_fit.Goals as goal

pub returns : goal.returns
returns c = record {
  message = λ client b committed at after u kept m copies sd none h. received client b committed at after u kept sd none h m copies;
  none = λ client b committed at after u kept sd none h. none_came client b committed at after u kept sd none h;
  refused = λ client b committed at after u kept r sd none h. unmarked_fits client b committed at after u kept sd none h r;
}
