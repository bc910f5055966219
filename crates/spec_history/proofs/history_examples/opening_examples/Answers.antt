use Rattle.spec_history.proofs.OpenedExample.{home_is, left_is}
use Rattle.spec_history.proofs.history_examples.opening_examples.Goals as goal

pub returns-clause-home : goal.returns-clause-home
returns-clause-home c = home_is

pub returns-clause-left_over : goal.returns-clause-left_over
returns-clause-left_over c = left_is
