use Rattle.front_end.proofs.Stepping.{takes_none}
use Rattle.front_end.proofs.front_end.FrontEnd.follow.Goals as goal
use Rattle.front_end.specs.Stepping.{present_of}
use Rattle.std.proofs.Common.{refl}
use Rattle.std.proofs.lemmas.Result.{on_ok_weaker}

pub returns-in-HandOn-clause-moves : goal.returns-in-HandOn-clause-moves
returns-in-HandOn-clause-moves g c = on_ok_weaker c.hand_on.result (λ steps. takes_none _ _ _ c.args.self.now _ steps refl) (c.hand_on.ensures.moves (present_of c.args.self.now))
