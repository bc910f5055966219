use Rattle.law_atomic_commit.proofs.Parts.{committed-from, has-committed}
use Rattle.law_atomic_commit.proofs.Grown.{committed-grown}
use Rattle.law_atomic_commit.specs.Growing.{grown}
use Rattle.law_atomic_commit.proofs.laws.commits_stay.Goals as goal

pub returns : goal.returns
returns c = record { tells = has-committed; told = committed-from; stays = λ S r e sd go t c. let h = has-committed S t c in let g = committed-grown S r e sd go t h.0 h.1 in committed-from (grown S r e) t g.0 g.1 }
