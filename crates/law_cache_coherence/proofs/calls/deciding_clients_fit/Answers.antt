use Rattle.law_cache_coherence.proofs.Working.{decided, given_up, undecided}
use Rattle.law_cache_coherence.proofs.calls.deciding_clients_fit.Goals as goal

pub returns : goal.returns
returns c = record {
  commit = λ client b committed at after u kept t o v copies sd none h. decided client b committed at after u kept sd none h t o v copies;
  abort = λ client b committed at after u kept t v sd none h. given_up client b committed at after u kept sd none h t v;
  refused = λ client b committed at after u kept t commit r sd none h. undecided client b committed at after u kept sd none h t commit r;
}
