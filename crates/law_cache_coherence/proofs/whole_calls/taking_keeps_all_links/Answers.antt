use Rattle.law_cache_coherence.proofs.Whole.{message_inside, none_all, refused_all}
use Rattle.law_cache_coherence.proofs.whole_calls.taking_keeps_all_links.Goals as goal

pub returns : goal.returns
returns c = record {
  message = λ old new at upto waits committed links copies left m objects d seen small brings becomes away there fit. message_inside old new at upto waits links copies committed seen there fit left away m objects d (λ inside news. small) (λ tells. brings) becomes;
  none = λ old new at upto waits committed links copies d seen there fit. none_all old new at upto waits links copies committed seen there fit d;
  refused = λ old new at upto waits committed links copies k d seen there fit. refused_all old new at upto waits links copies committed seen there fit k d;
}
