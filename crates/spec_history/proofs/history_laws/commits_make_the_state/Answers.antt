use Rattle.spec_history.proofs.Commits.{made_by_commits}
use Rattle.spec_history.proofs.history_laws.commits_make_the_state.Goals as goal

pub returns : goal.returns
returns c = made_by_commits
