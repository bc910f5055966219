use Rattle.client_state.proofs.Moving.{sends_then_drops}
use Rattle.client_state.proofs.Writing.{came_itself}
use Rattle.client_state.specs.Pending.{pending_in}
use Rattle.front_end.proofs.Stepping.{hands_then}
use Rattle.front_end.proofs.Writing.{same_client}
use Rattle.front_end.proofs.client.Client.join_behind.Goals as goal
use Rattle.std.proofs.Common.{ap, ◌∙◌}

pub returns-clause-shown : goal.returns-clause-shown
returns-clause-shown g c = λ s. c.go_behind.ensures.shown _ _ _ (c.in_ok-came.ensures.shown s)

pub returns-clause-moves : goal.returns-clause-moves
returns-clause-moves g c = λ none s. sends_then_drops (g.Q.Port.view c.args.port.now) (g.Q.Port.view c.join.new.port) c.args.self.now.held c.join.new.self.held c.go_behind.new.self.held c.go_behind.ensures.less (c.in_ok-came.ensures.moves none s)

pub returns-in_err-came-clause-writes : goal.returns-in_err-came-clause-writes
returns-in_err-came-clause-writes g c = λ w. same_client c.args.self.now c.join.new.self c.join.ensures.phase c.join.ensures.cache w

pub returns-clause-writes : goal.returns-clause-writes
returns-clause-writes g c = λ w. c.go_behind.ensures.writes _ (came_itself _ c.join.new.self.held.cache.cache) (same_client c.args.self.now c.join.new.self c.join.ensures.phase c.join.ensures.cache w)

pub returns-in_err-came-clause-free : goal.returns-in_err-came-clause-free
returns-in_err-came-clause-free g c = λ none. ap pending_in c.join.ensures.phase ∙ none

pub returns-clause-free : goal.returns-clause-free
returns-clause-free g c = λ none. c.go_behind.ensures.free (ap pending_in c.join.ensures.phase ∙ none)

pub returns-clause-hands : goal.returns-clause-hands
returns-clause-hands g c = hands_then _ _ _ c.args.self.now c.join.new.self c.go_behind.new.self c.in_ok-came.ensures.hands (λ none. ap pending_in c.join.ensures.phase ∙ none) c.go_behind.ensures.verdicts

pub returns-clause-as_sent : goal.returns-clause-as_sent
returns-clause-as_sent g c = c.go_behind.ensures.as_sent _ c.in_ok-came.ensures.as_sent
