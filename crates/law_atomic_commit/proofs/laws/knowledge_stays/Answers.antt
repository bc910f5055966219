use Rattle.law_atomic_commit.proofs.Staying.{may-on}
use Rattle.law_atomic_commit.proofs.laws.knowledge_stays.Goals as goal

pub returns : goal.returns
returns c = λ S n r d e sd go other may. may-on S n d sd go r e other may
