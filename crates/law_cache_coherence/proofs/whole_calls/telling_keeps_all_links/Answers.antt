use Rattle.law_cache_coherence.proofs.Whole.{ask_all, finish_all, forget_all}
use Rattle.law_cache_coherence.proofs.whole_calls.telling_keeps_all_links.Goals as goal

pub returns : goal.returns
returns c = record {
  finish = λ old new r t commit result links copies committed d seen fit. finish_all old new r links copies committed seen fit t commit result d;
  forget = λ old new r t result links copies committed d seen fit. forget_all old new r links copies committed seen fit t result d;
  ask = λ old new r t result links copies committed d seen fit. ask_all old new r links copies committed seen fit t result d;
}
