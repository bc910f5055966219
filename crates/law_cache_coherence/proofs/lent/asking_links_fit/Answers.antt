use Rattle.law_cache_coherence.proofs.Lending.{drew, fetched, granted}
use Rattle.law_cache_coherence.proofs.lent.asking_links_fit.Goals as goal

pub returns : goal.returns
returns c = record {
  fetch = λ old new at page upto before after copies left waits committed f seen there idle settled h. fetched old new at upto before after copies left waits committed page f seen there idle (λ calm live. settled) h;
  grant = λ old new at upto before after copies left waits committed. granted old new at upto before after copies left waits committed;
  draw = λ old new at upto answer before after copies left waits committed. drew old new at upto before after copies left waits committed answer;
}
