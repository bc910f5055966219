use Rattle.law_cache_coherence.proofs.Lending.{received_message, received_none, received_refused}
use Rattle.law_cache_coherence.proofs.lent.taking_links_fit.Goals as goal

pub returns : goal.returns
returns c = record {
  message = λ old new at upto waits committed copies left m objects d seen small brings becomes h. received_message old new at upto waits committed copies m objects left d seen (λ news. small) (λ tells. brings) becomes h;
  none = λ old new at upto waits committed copies. received_none old new at upto waits committed copies;
  refused = λ old new at upto waits committed copies r. received_refused old new at upto waits committed copies r;
}
