use Rattle.law_cache_coherence.proofs.Whole.{committed_inside}
use Rattle.law_cache_coherence.proofs.whole_calls.committing_keeps_all_links.Goals as goal

pub returns : goal.returns
returns c = record {
  commit_one = λ old new at upto waits committed links copies left q place d seen up idle settled pages become away there fit. committed_inside old new at upto waits links copies committed seen there fit left away q place d up (λ inside. idle) (λ inside calm live. settled) (λ fits tells. pages) become;
}
