use Rattle.law_cache_coherence.proofs.Working.{asked, finished, forgotten}
use Rattle.law_cache_coherence.proofs.calls.telling_clients_fit.Goals as goal

pub returns : goal.returns
returns c = record {
  finish = λ client b committed at after u kept t commit r sd none h. finished client b committed at after u kept sd none h t commit r;
  forget = λ client b committed at after u kept t r sd none h. forgotten client b committed at after u kept sd none h t r;
  ask = λ client b committed at after u kept t r sd none h. asked client b committed at after u kept sd none h t r;
}
