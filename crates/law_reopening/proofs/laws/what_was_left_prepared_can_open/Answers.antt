use Rattle.law_reopening.proofs.Example.{left_can_open}
use Rattle.law_reopening.proofs.laws.what_was_left_prepared_can_open.Goals as goal

pub returns : goal.returns
returns c = left_can_open
