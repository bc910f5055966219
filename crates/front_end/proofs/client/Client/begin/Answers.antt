use Rattle.std.specs.Prelude.{IfOk}
use Rattle.client_state.specs.declared.link.Link.{Link}
use Rattle.client_state.specs.Settling.{NewsAsSent}
use Rattle.client_state.proofs.Writing.{nothing_unsent}
use Rattle.front_end.proofs.Calling.{same_sends}
use Rattle.front_end.proofs.Stepping.{hands_none, hands_same}
use Rattle.front_end.proofs.client.Client.begin.Goals as goal
use Rattle.std.proofs.Common.{List, inr, refl, subst, sym, ◌∙◌}

pub returns-in_err-run-in-Some-Tx-clause-writes : goal.returns-in_err-run-in-Some-Tx-clause-writes
returns-in_err-run-in-Some-Tx-clause-writes g c = λ none. nothing_unsent _ _ none

pub returns-in_err-text-in-Some-Upgrade-clause-writes : goal.returns-in_err-text-in-Some-Upgrade-clause-writes
returns-in_err-text-in-Some-Upgrade-clause-writes g c = λ none. nothing_unsent _ _ none

pub returns-in_err-transaction-in-Some-Upgrade-clause-writes : goal.returns-in_err-transaction-in-Some-Upgrade-clause-writes
returns-in_err-transaction-in-Some-Upgrade-clause-writes g c = λ none. nothing_unsent _ _ none

pub returns-in_ok-transaction-in-Some-Upgrade-clause-writes : goal.returns-in_ok-transaction-in-Some-Upgrade-clause-writes
returns-in_ok-transaction-in-Some-Upgrade-clause-writes g c = λ none. c.join_and_draw.ensures.writes (λ x. c.undo.ensures.none x ∙ sym (c.in_ok-transaction-in-Some-Upgrade.ensures.writes x))

pub returns-in-None-clause-writes : goal.returns-in-None-clause-writes
returns-in-None-clause-writes g c = λ none. nothing_unsent _ _ none

pub returns-in_ok-transaction-in-Some-Upgrade-clause-moves : goal.returns-in_ok-transaction-in-Some-Upgrade-clause-moves
returns-in_ok-transaction-in-Some-Upgrade-clause-moves g c = λ idle. same_sends _ _ _ c.args.self.now.held c.undo.new.self (c.undo.ensures.less.0, c.undo.ensures.less.1, c.undo.ensures.copies) _ c.join_and_draw.result c.join_and_draw.ensures.moves

pub returns-in_ok-transaction-in-Some-Upgrade-clause-hands : goal.returns-in_ok-transaction-in-Some-Upgrade-clause-hands
returns-in_ok-transaction-in-Some-Upgrade-clause-hands g c = hands_same _ _ _ c.args.self.now (record c.args.self.now { held = c.undo.new.self }) c.join_and_draw.new.self c.undo.ensures.less.1 refl (λ none. none) (inr refl) c.join_and_draw.result c.join_and_draw.ensures.hands

pub returns-in-None-clause-hands : goal.returns-in-None-clause-hands
returns-in-None-clause-hands g c = hands_none _ _ _ c.args.self.now c.args.self.now refl (inr refl)

pub returns-in_ok-transaction-in-Some-Upgrade-clause-as_sent : goal.returns-in_ok-transaction-in-Some-Upgrade-clause-as_sent
returns-in_ok-transaction-in-Some-Upgrade-clause-as_sent g c = subst (λ (ls : List Link). IfOk c.join_and_draw.result (NewsAsSent ls)) (c.undo.ensures.less.1) c.join_and_draw.ensures.as_sent
