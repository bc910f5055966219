use Rattle.client_items.specs.Meanings.{is_ended}
use Rattle.client_state.proofs.Moving.{sends_then_drops}
use Rattle.client_state.proofs.Writing.{came_itself, nothing_unsent}
use Rattle.client_state.specs.Moving.{Rested}
use Rattle.client_state.specs.Pending.{pending_in}
use Rattle.client_state.specs.Writing.{unsent}
use Rattle.front_end.proofs.Showing.{try_shown}
use Rattle.front_end.proofs.Stepping.{hands_nothing, hands_same, hands_then}
use Rattle.front_end.proofs.client.Client.fetch_needed.Goals as goal
use Rattle.front_end.specs.Showing.{ByNoRepository}
use Rattle.std.proofs.Common.{ap, arith, refl, ◌∙◌}
use Rattle.std.specs.Prelude.{◌≤◌, Ok}

pub returns-then-oref-opened-clause-shown : goal.returns-then-oref-opened-clause-shown
returns-then-oref-opened-clause-shown g c = λ s. let far : c.args.opened.now.repos ≤ c.args.oref.repo = omega (arith, c.if-oref-opened.true) in try_shown _ _ _ _ _ c.end_try.ensures.news (ByNoRepository c.args.oref far refl)

pub returns-clause-shown : goal.returns-clause-shown
returns-clause-shown g c = λ s. c.go_behind.ensures.shown _ _ _ (c.in_ok-came.ensures.shown s)

pub returns-then-oref-opened-clause-moves : goal.returns-then-oref-opened-clause-moves
returns-then-oref-opened-clause-moves g c = λ idle s. Rested refl c.end_try.ensures.less

pub returns-clause-moves : goal.returns-clause-moves
returns-clause-moves g c = λ idle s. sends_then_drops (g.Q.Port.view c.args.port.now) (g.Q.Port.view c.fetch.new.port) c.args.self.now.held c.fetch.new.self.held c.go_behind.new.self.held c.go_behind.ensures.less (c.in_ok-came.ensures.moves idle s)

pub returns-in_err-came-clause-writes : goal.returns-in_err-came-clause-writes
returns-in_err-came-clause-writes g c = λ none. nothing_unsent _ _ (ap unsent c.fetch.ensures.phase ∙ (c.await_page.ensures.shares ∙ none))

pub returns-clause-writes : goal.returns-clause-writes
returns-clause-writes g c = λ none. c.go_behind.ensures.writes _ (came_itself _ c.fetch.new.self.held.cache.cache) (nothing_unsent _ _ (ap unsent c.fetch.ensures.phase ∙ (c.await_page.ensures.shares ∙ none)))

pub returns-in_err-came-clause-free : goal.returns-in_err-came-clause-free
returns-in_err-came-clause-free g c = λ none. ap pending_in c.fetch.ensures.phase ∙ (c.await_page.ensures.pending ∙ none)

pub returns-clause-free : goal.returns-clause-free
returns-clause-free g c = λ none. c.go_behind.ensures.free (ap pending_in c.fetch.ensures.phase ∙ (c.await_page.ensures.pending ∙ none))

pub returns-then-oref-opened-clause-free : goal.returns-then-oref-opened-clause-free
returns-then-oref-opened-clause-free g c = λ none. ap pending_in c.end_try.ensures.phase

pub returns-then-oref-opened-clause-hands : goal.returns-then-oref-opened-clause-hands
returns-then-oref-opened-clause-hands g c = hands_nothing _ _ _ c.args.self.now c.end_try.new.self c.end_try.ensures.verdicts

pub returns-then-oref-opened-clause-ends : goal.returns-then-oref-opened-clause-ends
returns-then-oref-opened-clause-ends g c = ap is_ended c.end_try.ensures.news

pub returns-clause-hands : goal.returns-clause-hands
returns-clause-hands g c = hands_same _ _ _ c.args.self.now (record c.args.self.now { phase = c.await_page.new.self }) c.go_behind.new.self refl refl (λ none. c.await_page.ensures.pending ∙ none) c.await_page.ensures.drawn (Ok c.go_behind.result) (hands_then _ _ _ (record c.args.self.now { phase = c.await_page.new.self }) c.fetch.new.self c.go_behind.new.self c.in_ok-came.ensures.hands (λ none. ap pending_in c.fetch.ensures.phase ∙ none) c.go_behind.ensures.verdicts)

pub returns-clause-as_sent : goal.returns-clause-as_sent
returns-clause-as_sent g c = c.go_behind.ensures.as_sent _ c.in_ok-came.ensures.as_sent

pub returns-then-oref-opened-clause-as_sent : goal.returns-then-oref-opened-clause-as_sent
returns-then-oref-opened-clause-as_sent g c = c.end_try.ensures.as_sent _
