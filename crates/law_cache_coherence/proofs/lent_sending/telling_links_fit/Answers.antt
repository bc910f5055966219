use Rattle.law_cache_coherence.proofs.Handing.{link_asked, link_finished, link_forgotten}
use Rattle.law_cache_coherence.proofs.lent_sending.telling_links_fit.Goals as goal

pub returns : goal.returns
returns c = record {
  finish = λ old new r committed copies t commit result link d seen h. link_finished old new r committed copies t commit result link d seen h;
  forget = λ old new r committed copies t result link d seen h. link_forgotten old new r committed copies t result link d seen h;
  ask = λ old new r committed copies t result link d seen h. link_asked old new r committed copies t result link d seen h;
}
