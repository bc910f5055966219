use Rattle.front_end.proofs.Acting.{by_connect}
use Rattle.front_end.proofs.Calling.{on_any}
use Rattle.front_end.proofs.Stepping.{hands_none}
use Rattle.front_end.proofs.client.Client.join.Goals as goal
use Rattle.std.proofs.Common.{inr, refl}

pub returns-in-None-clause-acts : goal.returns-in-None-clause-acts
returns-in-None-clause-acts g c = by_connect _ _ _ _ _ _ _ c.connect.ensures.call

pub returns-in-None-clause-moves : goal.returns-in-None-clause-moves
returns-in-None-clause-moves g c = λ none. on_any c.connect.result _ (c.connect.ensures.moves (c.in-None.ensures.apart refl none))

pub returns-in-None-clause-hands : goal.returns-in-None-clause-hands
returns-in-None-clause-hands g c = on_any c.connect.result _ (hands_none _ _ _ c.args.self.now (record c.args.self.now { held = c.connect.new.self }) refl (inr refl))
