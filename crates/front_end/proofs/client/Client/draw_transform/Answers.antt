use Rattle.std.specs.Prelude.{IfOk}
use Rattle.client_state.specs.declared.link.Link.{Link}
use Rattle.client_state.specs.Settling.{NewsAsSent}
use Rattle.client_state.proofs.Writing.{nothing_unsent}
use Rattle.client_state.specs.declared.held.Held.{Held}
use Rattle.front_end.proofs.Stepping.{hands_same}
use Rattle.front_end.proofs.client.Client.draw_transform.Goals as goal
use Rattle.std.proofs.Common.{ap, ◌∙◌, subst, List}

pub returns-in_err-becomes-in-Some-clause-writes : goal.returns-in_err-becomes-in-Some-clause-writes
returns-in_err-becomes-in-Some-clause-writes g c = λ none. nothing_unsent _ _ (c.go_on_with.ensures.phase ∙ none)

pub returns-in_ok-becomes-in-Some-clause-writes : goal.returns-in_ok-becomes-in-Some-clause-writes
returns-in_ok-becomes-in-Some-clause-writes g c = λ none. c.draw_made.ensures.writes (c.go_on_with.ensures.phase ∙ none)

pub returns-in-None-clause-writes : goal.returns-in-None-clause-writes
returns-in-None-clause-writes g c = λ none. c.join_behind.ensures.writes (nothing_unsent _ _ (c.go_on_with-in-None.ensures.phase ∙ none))

pub returns-in_err-becomes-in-Some-clause-free : goal.returns-in_err-becomes-in-Some-clause-free
returns-in_err-becomes-in-Some-clause-free g c = λ none. c.go_on_with.ensures.pending ∙ none

pub returns-in_ok-becomes-in-Some-clause-free : goal.returns-in_ok-becomes-in-Some-clause-free
returns-in_ok-becomes-in-Some-clause-free g c = λ none. c.draw_made.ensures.free (c.go_on_with.ensures.pending ∙ none)

pub returns-in-None-clause-free : goal.returns-in-None-clause-free
returns-in-None-clause-free g c = λ none. c.join_behind.ensures.free (c.go_on_with-in-None.ensures.pending ∙ none)

pub returns-in_ok-becomes-in-Some-clause-hands : goal.returns-in_ok-becomes-in-Some-clause-hands
returns-in_ok-becomes-in-Some-clause-hands g c = λ undrawn. hands_same _ _ _ c.args.self.now c.go_on_with.new.self c.draw_made.new.self (ap (λ (h : Held). h.links.items) c.go_on_with.ensures.held) c.go_on_with.ensures.duties (λ none. c.go_on_with.ensures.pending ∙ none) (c.go_on_with.ensures.drawn undrawn) c.draw_made.result c.draw_made.ensures.hands

pub returns-in-None-clause-hands : goal.returns-in-None-clause-hands
returns-in-None-clause-hands g c = λ undrawn. hands_same _ _ _ c.args.self.now c.go_on_with-in-None.new.self c.join_behind.new.self (ap (λ (h : Held). h.links.items) c.go_on_with-in-None.ensures.held) c.go_on_with-in-None.ensures.duties (λ none. c.go_on_with-in-None.ensures.pending ∙ none) (c.go_on_with-in-None.ensures.drawn undrawn) c.join_behind.result c.join_behind.ensures.hands

pub returns-in_ok-becomes-in-Some-clause-as_sent : goal.returns-in_ok-becomes-in-Some-clause-as_sent
returns-in_ok-becomes-in-Some-clause-as_sent g c = subst (λ (ls : List Link). IfOk c.draw_made.result (NewsAsSent ls)) (ap (λ (h : Held). h.links.items) c.go_on_with.ensures.held) c.draw_made.ensures.as_sent

pub returns-in-None-clause-as_sent : goal.returns-in-None-clause-as_sent
returns-in-None-clause-as_sent g c = subst (λ (ls : List Link). IfOk c.join_behind.result (NewsAsSent ls)) (ap (λ (h : Held). h.links.items) c.go_on_with-in-None.ensures.held) c.join_behind.ensures.as_sent
