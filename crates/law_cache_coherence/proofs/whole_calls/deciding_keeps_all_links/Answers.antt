use Rattle.law_cache_coherence.proofs.Whole.{abort_all, prepared_all, undecided_all}
use Rattle.law_cache_coherence.proofs.whole_calls.deciding_keeps_all_links.Goals as goal

pub returns : goal.returns
returns c = record {
  prepare = λ old new at upto waits committed links copies q result d seen up open' there fit. prepared_all old new at upto waits links copies committed seen there fit q result d up open';
  abort = λ old new at upto waits committed links copies t v d seen there fit. abort_all old new at upto waits links copies committed seen there fit t v d;
  refused = λ old new at upto waits committed links copies t commit k d seen there fit. undecided_all old new at upto waits links copies committed seen there fit t commit k d;
}
