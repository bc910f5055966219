use Rattle.client_state.specs.Settling.{DrewAsSent}
use Rattle.client_state.proofs.Moving.{sends_then_drops, session_is_here}
use Rattle.client_state.proofs.Writing.{drew_refused, drew_ts, still_writes}
use Rattle.client_state.specs.Pending.{pending_in}
use Rattle.client_state.specs.Showing.{DrewShown}
use Rattle.front_end.proofs.Acting.{by_draw}
use Rattle.front_end.proofs.Stepping.{drawn_behind, hands_drawn, hands_none, hands_then}
use Rattle.front_end.proofs.client.Client.draw.Goals as goal
use Rattle.front_end.specs.declared.client.Client.{Client}
use Rattle.std.proofs.Common.{ap, inr, refl, subst, sym, ◌∙◌}

pub returns-in_err-ts-clause-acts : goal.returns-in_err-ts-clause-acts
returns-in_err-ts-clause-acts g c = by_draw _ _ _ _ _ _ _ _ _ c.draw.ensures.call

pub returns-in-Ts-clause-acts : goal.returns-in-Ts-clause-acts
returns-in-Ts-clause-acts g c = by_draw _ _ _ _ _ _ _ _ _ c.draw.ensures.call

pub returns-in-Refused-clause-acts : goal.returns-in-Refused-clause-acts
returns-in-Refused-clause-acts g c = by_draw _ _ _ _ _ _ _ _ _ c.draw.ensures.call

pub returns-in-Refused-clause-shown : goal.returns-in-Refused-clause-shown
returns-in-Refused-clause-shown g c = λ repos s. c.go_behind.ensures.shown _ _ repos (subst (DrewShown (g.Q.Port.view c.args.port.now) (g.Q.Port.view c.draw.new.port)) c.in-Refused.is (c.in_ok-ts.ensures.shown s))

pub returns-in_err-ts-clause-moves : goal.returns-in_err-ts-clause-moves
returns-in_err-ts-clause-moves g c = λ s. (c.draw.ensures.moves (session_is_here c.args.self.now.held.links.items c.args.coordinator c.in-Some.at (sym c.in-Some.ensures)) s)

pub returns-in-Ts-clause-moves : goal.returns-in-Ts-clause-moves
returns-in-Ts-clause-moves g c = λ s. rw (c.set_phase.ensures, c.take_phase.ensures.rest) (c.draw.ensures.moves (session_is_here c.args.self.now.held.links.items c.args.coordinator c.in-Some.at (sym c.in-Some.ensures)) s)

pub returns-in-Refused-clause-moves : goal.returns-in-Refused-clause-moves
returns-in-Refused-clause-moves g c = λ s. sends_then_drops (g.Q.Port.view c.args.port.now) (g.Q.Port.view c.draw.new.port) c.args.self.now.held c.draw.new.self c.go_behind.new.self.held c.go_behind.ensures.less (c.draw.ensures.moves (session_is_here c.args.self.now.held.links.items c.args.coordinator c.in-Some.at (sym c.in-Some.ensures)) s)

pub returns-in-Ts-clause-writes : goal.returns-in-Ts-clause-writes
returns-in-Ts-clause-writes g c = λ w. rw (c.set_phase.ensures, c.take_phase.ensures.rest) (c.drawn-phase.ensures.writes _ (rw (c.take_phase.ensures.phase) (still_writes _ _ c.args.self.now.held.cache.cache _ refl (drew_ts _ _ _ _ c.in-Ts.is c.in_ok-ts.ensures.stays) w)))

pub returns-in-Refused-clause-writes : goal.returns-in-Refused-clause-writes
returns-in-Refused-clause-writes g c = λ w. c.go_behind.ensures.writes c.args.self.now.held.cache.cache (drew_refused _ _ _ _ c.in-Refused.is c.in_ok-ts.ensures.stays) w

pub returns-in-Ts-clause-free : goal.returns-in-Ts-clause-free
returns-in-Ts-clause-free g c = λ none. ap (λ (k : Client). pending_in k.phase) c.set_phase.ensures ∙ (c.drawn-phase.ensures.pending ∙ (ap pending_in c.take_phase.ensures.phase ∙ none))

pub returns-in-Refused-clause-free : goal.returns-in-Refused-clause-free
returns-in-Refused-clause-free g c = λ none. c.go_behind.ensures.free none

pub returns-in_err-ts-clause-free : goal.returns-in_err-ts-clause-free
returns-in_err-ts-clause-free g c = λ none. none

pub returns-in-Refused-clause-as_sent : goal.returns-in-Refused-clause-as_sent
returns-in-Refused-clause-as_sent g c = c.go_behind.ensures.as_sent _ (subst (DrewAsSent c.args.self.now.held.links.items) c.in-Refused.is c.in_ok-ts.ensures.as_sent)

pub returns-in-Ts-clause-hands : goal.returns-in-Ts-clause-hands
returns-in-Ts-clause-hands g c = hands_drawn _ _ _ c.args.self.now c.set_phase.new.self (ap (λ (k : Client). k.duties) c.set_phase.ensures ∙ ap (λ (k : Client). k.duties) c.take_phase.ensures.rest) c.in-Some.at _ _ _ _ _ _ c.in_ok-ts.ensures.call c.in-Ts.is (drawn_behind _ c.set_phase.new.self.phase c.args.self.now.phase c.drawn-phase.result c.take_phase.result (ap (λ (k : Client). k.phase) c.set_phase.ensures) c.take_phase.ensures.phase c.drawn-phase.ensures.timestamp)

pub returns-in-Refused-clause-hands : goal.returns-in-Refused-clause-hands
returns-in-Refused-clause-hands g c = hands_then _ _ _ c.args.self.now (record c.args.self.now { held = c.draw.new.self }) c.go_behind.new.self (hands_none _ _ _ c.args.self.now (record c.args.self.now { held = c.draw.new.self }) refl (inr refl)) (λ none. none) c.go_behind.ensures.verdicts

pub returns-in_default-clause-hands : goal.returns-in_default-clause-hands
returns-in_default-clause-hands g c = hands_none _ _ _ c.args.self.now c.args.self.now refl (inr refl)
