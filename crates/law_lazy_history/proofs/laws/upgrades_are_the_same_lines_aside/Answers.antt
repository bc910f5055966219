use Rattle.law_lazy_history.proofs.Aside.{up-aside}
use Rattle.law_lazy_history.proofs.laws.upgrades_are_the_same_lines_aside.Goals as goal

pub returns : goal.returns
returns c = up-aside
