use Rattle.law_cache_coherence.proofs.Whole.{connect_all, draw_all, fetch_all, grant_all}
use Rattle.law_cache_coherence.proofs.whole_calls.asking_keeps_all_links.Goals as goal

pub returns : goal.returns
returns c = record { connect = connect_all; fetch = fetch_all; grant = grant_all; draw = draw_all }
