use Rattle.law_repo_sessions.proofs.Came.{entry_agrees}
use Rattle.law_repo_sessions.proofs.laws.entries_keep_agreement.Goals as goal

pub returns : goal.returns
returns c = λ b T e K L plain a h. entry_agrees b T e K L plain a h
