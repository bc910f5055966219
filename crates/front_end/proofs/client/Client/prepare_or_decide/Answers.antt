use Rattle.front_end.proofs.Writing.{none_left}
use Rattle.front_end.proofs.client.Client.prepare_or_decide.Goals as goal
use Rattle.std.proofs.Common.{rules}

pub returns-clause-moves : goal.returns-clause-moves
returns-clause-moves g c = λ item who none idle. c.prepare_next.ensures.moves item who idle

pub returns-then-is_empty-clause-moves : goal.returns-then-is_empty-clause-moves
returns-then-is_empty-clause-moves g c = λ item who none idle. c.decide_prepared.ensures.moves item (search (none_left, rules)) none idle
