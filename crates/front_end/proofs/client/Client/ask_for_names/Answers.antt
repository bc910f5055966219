use Rattle.client_state.proofs.Moving.{session_is_here}
use Rattle.front_end.proofs.Acting.{by_grant}
use Rattle.front_end.proofs.Calling.{on_any}
use Rattle.front_end.proofs.Stepping.{hands_none}
use Rattle.front_end.proofs.client.Client.ask_for_names.Goals as goal
use Rattle.std.proofs.Common.{inr, refl, sym}

pub returns-in-Some-clause-acts : goal.returns-in-Some-clause-acts
returns-in-Some-clause-acts g c = by_grant _ _ _ _ _ _ _ _ c.ask_for_names.ensures.call

pub returns-in-Some-clause-moves : goal.returns-in-Some-clause-moves
returns-in-Some-clause-moves g c = λ idle. on_any c.ask_for_names.result _ (c.ask_for_names.ensures.moves (session_is_here c.args.self.now.held.links.items c.args.repo c.in-Some.at (sym c.in-Some.ensures), idle))

pub returns-in-None-clause-moves : goal.returns-in-None-clause-moves
returns-in-None-clause-moves g c = λ idle. c.join.ensures.moves (sym c.in-None.ensures)

pub returns-in-Some-clause-hands : goal.returns-in-Some-clause-hands
returns-in-Some-clause-hands g c = on_any c.ask_for_names.result _ (hands_none _ _ _ c.args.self.now (record c.args.self.now { held = c.ask_for_names.new.self }) refl (inr refl))
