use Rattle.std.specs.Prelude.{IfOk}
use Rattle.client_state.specs.declared.link.Link.{Link}
use Rattle.client_state.specs.Settling.{NewsAsSent}
use Rattle.client_state.proofs.Writing.{nothing_unsent}
use Rattle.front_end.proofs.Calling.{same_sends}
use Rattle.front_end.proofs.Stepping.{hands_same}
use Rattle.front_end.proofs.client.Client.go_behind_run.Goals as goal
use Rattle.method_eval.specs.declared.view.Ran.{Ran}
use Rattle.paused_eval.specs.Writing.{HasWritten}
use Rattle.std.proofs.Common.{List, inr, refl, subst}

pub returns-in_ok-transaction-in-Done-clause-moves : goal.returns-in_ok-transaction-in-Done-clause-moves
returns-in_ok-transaction-in-Done-clause-moves g c = λ idle. same_sends _ _ _ c.args.self.now.held c.evaluated.new.self c.evaluated.ensures.same _ c.join_and_draw.result c.join_and_draw.ensures.moves

pub returns-in_err-transaction-in-Done-clause-writes : goal.returns-in_err-transaction-in-Done-clause-writes
returns-in_err-transaction-in-Done-clause-writes g c = λ none wrote. nothing_unsent _ _ none

pub returns-in_ok-transaction-in-Done-clause-writes : goal.returns-in_ok-transaction-in-Done-clause-writes
returns-in_ok-transaction-in-Done-clause-writes g c = λ none wrote. c.join_and_draw.ensures.writes (c.in_ok-transaction-in-Done.ensures.wrote (subst (λ (r : Ran). HasWritten r c.args.self.now.held.cache.cache) c.in-Done.is wrote))

pub returns-in_ok-transaction-in-Done-clause-hands : goal.returns-in_ok-transaction-in-Done-clause-hands
returns-in_ok-transaction-in-Done-clause-hands g c = hands_same _ _ _ c.args.self.now (record c.args.self.now { held = c.evaluated.new.self }) c.join_and_draw.new.self c.evaluated.ensures.same.1 refl (λ none. none) (inr refl) c.join_and_draw.result c.join_and_draw.ensures.hands

pub returns-in_ok-transaction-in-Done-clause-as_sent : goal.returns-in_ok-transaction-in-Done-clause-as_sent
returns-in_ok-transaction-in-Done-clause-as_sent g c = subst (λ (ls : List Link). IfOk c.join_and_draw.result (NewsAsSent ls)) (c.evaluated.ensures.same.1) c.join_and_draw.ensures.as_sent
