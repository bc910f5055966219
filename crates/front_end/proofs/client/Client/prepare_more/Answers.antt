use Rattle.front_end.proofs.client.Client.prepare_more.Goals as goal
use Rattle.std.proofs.Common.{rules}

pub returns-clause-moves : goal.returns-clause-moves
returns-clause-moves g c = λ item a more of idle. c.prepare.ensures.moves item a more (search rules) of idle
