use Rattle.law_cache_coherence.proofs.Handing.{link_given_up, link_undecided}
use Rattle.law_cache_coherence.proofs.lent_sending.deciding_links_fit.Goals as goal

pub returns : goal.returns
returns c = record {
  abort = λ old new at upto waits committed copies t v d seen h. link_given_up old new at.repo at.session upto waits committed copies seen h t v d;
  refused = λ old new at upto waits committed copies t commit k d seen h. link_undecided old new at.repo at.session upto waits committed copies seen h t commit k d;
}
