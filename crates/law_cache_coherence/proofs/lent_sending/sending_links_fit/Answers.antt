use Rattle.law_cache_coherence.proofs.Handing.{link_committed, link_prepared, link_uncommitted}
use Rattle.law_cache_coherence.proofs.lent_sending.sending_links_fit.Goals as goal

pub returns : goal.returns
returns c = record {
  prepare = λ old new at upto waits committed copies q result d seen up open' h. link_prepared old new at.repo at.session upto waits committed copies seen h q result d up open';
  commit_one = λ old new at upto waits committed copies left q place d seen up idle settled pages become h. link_committed old new at.repo at.session upto waits committed copies seen h q place left d up idle (λ calm live. settled) (λ fits tells. pages) become;
  commit_refused = λ old new at upto waits committed copies q k d seen h. link_uncommitted old new at.repo at.session upto waits committed copies seen h q k d;
}
