use Rattle.spec_history.proofs.Lives.{lives}
use Rattle.spec_history.proofs.history_laws.lives_follow.Goals as goal

pub returns : goal.returns
returns c = lives
