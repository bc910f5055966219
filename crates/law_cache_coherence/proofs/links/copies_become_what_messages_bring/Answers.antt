use Rattle.law_cache_coherence.proofs.Linked.{become}
use Rattle.law_cache_coherence.proofs.links.copies_become_what_messages_bring.Goals as goal

pub returns : goal.returns
returns c = become
