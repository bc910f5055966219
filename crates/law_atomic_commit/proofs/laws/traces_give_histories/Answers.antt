use Rattle.law_atomic_commit.proofs.Traced.{entry-added, mark-added}
use Rattle.law_atomic_commit.proofs.laws.traces_give_histories.Goals as goal

pub returns : goal.returns
returns c = record { entry = entry-added; mark = mark-added }
