use Rattle.client_state.specs.Settling.{DrewAsSent}
use Rattle.client_state.proofs.Moving.{sends_then_drops}
use Rattle.client_state.proofs.Writing.{came_itself, nothing_unsent}
use Rattle.client_state.specs.Showing.{DrewShown}
use Rattle.front_end.proofs.Acting.{by_draw}
use Rattle.front_end.proofs.Stepping.{hands_drawn, hands_none, hands_then}
use Rattle.front_end.proofs.client.Client.draw_made.Goals as goal
use Rattle.std.proofs.Common.{inr, refl, subst, ◌∙◌}

pub returns-in_err-ts-clause-acts : goal.returns-in_err-ts-clause-acts
returns-in_err-ts-clause-acts g c = by_draw _ _ _ _ _ _ _ _ _ c.draw.ensures.call

pub returns-in-Ts-clause-acts : goal.returns-in-Ts-clause-acts
returns-in-Ts-clause-acts g c = by_draw _ _ _ _ _ _ _ _ _ c.draw.ensures.call

pub returns-in-Refused-clause-acts : goal.returns-in-Refused-clause-acts
returns-in-Refused-clause-acts g c = by_draw _ _ _ _ _ _ _ _ _ c.draw.ensures.call

pub returns-in-Refused-clause-shown : goal.returns-in-Refused-clause-shown
returns-in-Refused-clause-shown g c = λ repos s. c.go_behind.ensures.shown _ _ repos (subst (DrewShown (g.Q.Port.view c.args.port.now) (g.Q.Port.view c.draw.new.port)) c.in-Refused.is (c.in_ok-ts.ensures.shown s))

pub returns-in-Refused-clause-moves : goal.returns-in-Refused-clause-moves
returns-in-Refused-clause-moves g c = λ joined s. sends_then_drops (g.Q.Port.view c.args.port.now) (g.Q.Port.view c.draw.new.port) c.args.self.now.held c.draw.new.self c.go_behind.new.self.held c.go_behind.ensures.less (c.draw.ensures.moves joined s)

pub returns-in_err-ts-clause-writes : goal.returns-in_err-ts-clause-writes
returns-in_err-ts-clause-writes g c = λ none. nothing_unsent _ _ none

pub returns-in-Ts-clause-writes : goal.returns-in-Ts-clause-writes
returns-in-Ts-clause-writes g c = λ none. nothing_unsent _ _ (c.draw_transform.ensures.shares ∙ none)

pub returns-in-Refused-clause-writes : goal.returns-in-Refused-clause-writes
returns-in-Refused-clause-writes g c = λ none. c.go_behind.ensures.writes _ (came_itself _ c.draw.new.self.cache.cache) (nothing_unsent _ _ none)

pub returns-in-Ts-clause-free : goal.returns-in-Ts-clause-free
returns-in-Ts-clause-free g c = λ none. c.draw_transform.ensures.pending ∙ none

pub returns-in-Refused-clause-free : goal.returns-in-Refused-clause-free
returns-in-Refused-clause-free g c = λ none. c.go_behind.ensures.free none

pub returns-in_err-ts-clause-free : goal.returns-in_err-ts-clause-free
returns-in_err-ts-clause-free g c = λ none. none

pub returns-in-Refused-clause-as_sent : goal.returns-in-Refused-clause-as_sent
returns-in-Refused-clause-as_sent g c = c.go_behind.ensures.as_sent _ (subst (DrewAsSent c.args.self.now.held.links.items) c.in-Refused.is c.in_ok-ts.ensures.as_sent)

pub returns-in-Ts-clause-hands : goal.returns-in-Ts-clause-hands
returns-in-Ts-clause-hands g c = hands_drawn _ _ _ c.args.self.now (record c.args.self.now { held = c.draw.new.self; phase = c.draw_transform.new.self }) refl c.args.at _ _ _ _ _ _ c.in_ok-ts.ensures.call c.in-Ts.is c.draw_transform.ensures.timestamp

pub returns-in-Refused-clause-hands : goal.returns-in-Refused-clause-hands
returns-in-Refused-clause-hands g c = hands_then _ _ _ c.args.self.now (record c.args.self.now { held = c.draw.new.self }) c.go_behind.new.self (hands_none _ _ _ c.args.self.now (record c.args.self.now { held = c.draw.new.self }) refl (inr refl)) (λ none. none) c.go_behind.ensures.verdicts
