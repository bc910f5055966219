use Rattle.client_state.specs.Drawing.{drawn_by}
use Rattle.std.specs.Prelude.{IfOk}
use Rattle.client_state.specs.declared.link.Link.{Link}
use Rattle.client_state.specs.Settling.{NewsAsSent}
use Rattle.client_state.proofs.Writing.{nothing_unsent}
use Rattle.client_state.specs.Moving.{HoldsSame}
use Rattle.client_state.specs.declared.held.Held.{Held}
use Rattle.front_end.proofs.Calling.{same_sends_idle}
use Rattle.front_end.proofs.Stepping.{hands_same}
use Rattle.front_end.proofs.client.Client.collect.Goals as goal
use Rattle.std.proofs.Common.{List, ap, inr, refl, subst, sym, ◌∙◌}

pub returns-in-All-clause-moves : goal.returns-in-All-clause-moves
returns-in-All-clause-moves g c = same_sends_idle _ _ _ c.args.self.now.held c.collect.new.self c.collect.ensures.same _ c.draw_transform.result c.draw_transform.ensures.moves

pub returns-in-Part-clause-moves : goal.returns-in-Part-clause-moves
returns-in-Part-clause-moves g c = same_sends_idle _ _ _ c.args.self.now.held c.go_on_with.new.self.held (subst (λ (h : Held). HoldsSame c.args.self.now.held h) (sym c.go_on_with.ensures.held) c.collect.ensures.same) _ c.fetch_needed.result c.fetch_needed.ensures.moves

pub returns-in_err-reads-clause-writes : goal.returns-in_err-reads-clause-writes
returns-in_err-reads-clause-writes g c = λ none. nothing_unsent _ _ none

pub returns-in-Part-clause-writes : goal.returns-in-Part-clause-writes
returns-in-Part-clause-writes g c = λ none. c.fetch_needed.ensures.writes (c.go_on_with.ensures.phase ∙ none)

pub returns-in-Part-clause-free : goal.returns-in-Part-clause-free
returns-in-Part-clause-free g c = λ none. c.fetch_needed.ensures.free (c.go_on_with.ensures.pending ∙ none)

pub returns-in-All-clause-hands : goal.returns-in-All-clause-hands
returns-in-All-clause-hands g c = λ undrawn. hands_same _ _ _ c.args.self.now (record c.args.self.now { held = c.collect.new.self }) c.draw_transform.new.self c.collect.ensures.same.1 refl (λ none. none) (inr refl) c.draw_transform.result (c.draw_transform.ensures.hands (ap drawn_by c.collect.ensures.stage ∙ undrawn))

pub returns-in-Part-clause-hands : goal.returns-in-Part-clause-hands
returns-in-Part-clause-hands g c = λ undrawn. hands_same _ _ _ c.args.self.now c.go_on_with.new.self c.fetch_needed.new.self (ap (λ (h : Held). h.links.items) c.go_on_with.ensures.held ∙ c.collect.ensures.same.1) c.go_on_with.ensures.duties (λ none. c.go_on_with.ensures.pending ∙ none) (c.go_on_with.ensures.drawn (ap drawn_by c.collect.ensures.stage ∙ undrawn)) c.fetch_needed.result c.fetch_needed.ensures.hands

pub returns-in-All-clause-as_sent : goal.returns-in-All-clause-as_sent
returns-in-All-clause-as_sent g c = subst (λ (ls : List Link). IfOk c.draw_transform.result (NewsAsSent ls)) (c.collect.ensures.same.1) c.draw_transform.ensures.as_sent

pub returns-in-Part-clause-as_sent : goal.returns-in-Part-clause-as_sent
returns-in-Part-clause-as_sent g c = subst (λ (ls : List Link). IfOk c.fetch_needed.result (NewsAsSent ls)) (ap (λ (h : Held). h.links.items) c.go_on_with.ensures.held ∙ c.collect.ensures.same.1) c.fetch_needed.ensures.as_sent
