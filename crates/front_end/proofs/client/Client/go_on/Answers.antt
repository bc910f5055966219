use Rattle.client_state.specs.Drawing.{drawn_in}
use Rattle.std.specs.Prelude.{IfOk}
use Rattle.client_state.specs.declared.link.Link.{Link}
use Rattle.client_state.specs.Settling.{NewsAsSent}
use Rattle.client_state.proofs.Moving.{less_itself}
use Rattle.client_state.proofs.Writing.{drawn_writes, evaluated_writes, nothing_unsent}
use Rattle.client_state.specs.Pending.{pending_in}
use Rattle.client_state.specs.Writing.{unsent as shares_unsent}
use Rattle.front_end.proofs.Stepping.{by_rest_free, from_idle, from_phase, goes_on_from, sends_as_drawn, sends_from, sends_from_phase, sends_idle_from, stays_noted}
use Rattle.front_end.proofs.client.Client.go_on.Goals as goal
use Rattle.front_end.specs.declared.client.Client.{Client}
use Rattle.std.proofs.Common.{List, ap, inl, inr, refl, rules, subst, sym, ◌∙◌}

pub returns-in-Between-clause-moves : goal.returns-in-Between-clause-moves
returns-in-Between-clause-moves g c = λ w idle. goes_on_from _ _ _ _ c.args.self.now c.begin.new.self c.begin.result (sends_idle_from _ _ _ _ c.args.self.now _ _ _ _ c.take_phase.ensures.rest refl refl (search rules) c.begin.result c.begin.ensures.moves (c.begin.ensures.free (ap (λ (k : Client). pending_in k.phase) c.take_phase.ensures.rest)) c.begin.ensures.ends c.begin.ensures.hands idle)

pub returns-in-Evaluating-clause-moves : goal.returns-in-Evaluating-clause-moves
returns-in-Evaluating-clause-moves g c = λ w idle. goes_on_from _ _ _ _ c.args.self.now c.evaluate.new.self c.evaluate.result (sends_idle_from _ _ _ _ c.args.self.now _ _ _ _ c.take_phase.ensures.rest refl refl (ap pending_in (sym c.take_phase.ensures.phase ∙ c.in-Evaluating.is)) c.evaluate.result c.evaluate.ensures.moves c.evaluate.ensures.free c.evaluate.ensures.ends c.evaluate.ensures.hands idle)

pub returns-in-Transforming-clause-moves : goal.returns-in-Transforming-clause-moves
returns-in-Transforming-clause-moves g c = λ w idle. sends_as_drawn _ _ _ _ c.args.self.now c.transform.new.self _ (ap pending_in (sym c.take_phase.ensures.phase ∙ c.in-Transforming.is)) (ap drawn_in (sym c.take_phase.ensures.phase ∙ c.in-Transforming.is)) c.transform.result (sends_from_phase _ _ _ _ c.args.self.now c.take_phase.new.self c.transform.new.self _ _ c.take_phase.ensures.rest c.transform.result (c.transform.ensures.moves _) idle)

pub returns-in-Evaluated-clause-moves : goal.returns-in-Evaluated-clause-moves
returns-in-Evaluated-clause-moves g c = λ w idle. goes_on_from _ _ _ _ c.args.self.now c.join_and_draw.new.self c.join_and_draw.result (from_phase _ _ _ _ c.args.self.now c.take_phase.new.self c.join_and_draw.new.self _ _ _ c.take_phase.ensures.rest refl c.join_and_draw.result (sends_from _ _ _ _ c.take_phase.new.self c.join_and_draw.new.self _ (ap (λ (k : Client). pending_in k.phase) c.take_phase.ensures.rest) (ap (λ (k : Client). drawn_in k.phase) c.take_phase.ensures.rest) (ap pending_in (sym c.take_phase.ensures.phase ∙ c.in-Evaluated.is)) c.join_and_draw.result c.join_and_draw.ensures.moves c.join_and_draw.ensures.free c.join_and_draw.ensures.ends c.join_and_draw.ensures.hands))

pub returns-in-Drawn-clause-moves : goal.returns-in-Drawn-clause-moves
returns-in-Drawn-clause-moves g c = λ w idle. sends_as_drawn _ _ _ _ c.args.self.now c.send.new.self _ (ap pending_in (sym c.take_phase.ensures.phase ∙ c.in-Drawn.is)) (ap drawn_in (sym c.take_phase.ensures.phase ∙ c.in-Drawn.is)) c.send.result (sends_from_phase _ _ _ _ c.args.self.now c.take_phase.new.self c.send.new.self _ _ c.take_phase.ensures.rest c.send.result (c.send.ensures.moves _ refl (ap (λ (k : Client). k.phase) c.take_phase.ensures.rest) (rw (c.take_phase.ensures.rest) (drawn_writes _ _ _ _ (sym c.take_phase.ensures.phase ∙ c.in-Drawn.is) w))) idle)

pub returns-in-Preparing-clause-moves : goal.returns-in-Preparing-clause-moves
returns-in-Preparing-clause-moves g c = λ w idle. goes_on_from _ _ _ _ c.args.self.now c.prepare_or_decide.new.self c.prepare_or_decide.result (from_idle _ _ _ _ c.args.self.now _ _ _ _ _ c.take_phase.ensures.rest (ap pending_in (sym c.take_phase.ensures.phase ∙ c.in-Preparing.is)) c.prepare_or_decide.result (c.prepare_or_decide.ensures.moves _ refl (ap (λ (k : Client). k.phase) c.take_phase.ensures.rest)) idle)

pub returns-in-Between-clause-writes : goal.returns-in-Between-clause-writes
returns-in-Between-clause-writes g c = λ w. c.begin.ensures.writes (ap (λ (k : Client). shares_unsent k.phase) c.take_phase.ensures.rest)

pub returns-in-Evaluated-clause-writes : goal.returns-in-Evaluated-clause-writes
returns-in-Evaluated-clause-writes g c = λ w. c.join_and_draw.ensures.writes (rw (c.take_phase.ensures.rest) (evaluated_writes _ _ _ (sym c.take_phase.ensures.phase ∙ c.in-Evaluated.is) w))

pub returns-in-Drawn-clause-writes : goal.returns-in-Drawn-clause-writes
returns-in-Drawn-clause-writes g c = λ w. c.send.ensures.writes (ap (λ (k : Client). shares_unsent k.phase) c.take_phase.ensures.rest)

pub returns-in-Preparing-clause-writes : goal.returns-in-Preparing-clause-writes
returns-in-Preparing-clause-writes g c = λ w. c.prepare_or_decide.ensures.writes (ap (λ (k : Client). shares_unsent k.phase) c.take_phase.ensures.rest)

pub returns-in-Asking-clause-writes : goal.returns-in-Asking-clause-writes
returns-in-Asking-clause-writes g c = λ w. nothing_unsent _ _ (ap (λ (k : Client). shares_unsent k.phase) c.set_phase.ensures)

pub returns-in-Asking-clause-moves : goal.returns-in-Asking-clause-moves
returns-in-Asking-clause-moves g c = λ w idle. rw (c.set_phase.ensures, c.take_phase.ensures.rest) (by_rest_free _ _ _ c.args.self.now.held c.args.self.now.held _ _ _ _ _ (less_itself c.args.self.now.held) (inr (sym (ap pending_in (sym c.take_phase.ensures.phase ∙ c.in-Asking.is)), λ at written. written)) refl refl refl (stays_noted _ _ c.args.self.now.duties c.args.self.now.duties (sym (ap pending_in (sym c.take_phase.ensures.phase ∙ c.in-Asking.is))) refl) _ (inl refl) (λ und x. refl))

pub returns-in-Between-clause-as_sent : goal.returns-in-Between-clause-as_sent
returns-in-Between-clause-as_sent g c = subst (λ (ls : List Link). IfOk c.begin.result (NewsAsSent ls)) (ap (λ (k : Client). k.held.links.items) c.take_phase.ensures.rest) c.begin.ensures.as_sent

pub returns-in-Evaluating-clause-as_sent : goal.returns-in-Evaluating-clause-as_sent
returns-in-Evaluating-clause-as_sent g c = subst (λ (ls : List Link). IfOk c.evaluate.result (NewsAsSent ls)) (ap (λ (k : Client). k.held.links.items) c.take_phase.ensures.rest) c.evaluate.ensures.as_sent

pub returns-in-Transforming-clause-as_sent : goal.returns-in-Transforming-clause-as_sent
returns-in-Transforming-clause-as_sent g c = subst (λ (ls : List Link). IfOk c.transform.result (NewsAsSent ls)) (ap (λ (k : Client). k.held.links.items) c.take_phase.ensures.rest) c.transform.ensures.as_sent

pub returns-in-Evaluated-clause-as_sent : goal.returns-in-Evaluated-clause-as_sent
returns-in-Evaluated-clause-as_sent g c = subst (λ (ls : List Link). IfOk c.join_and_draw.result (NewsAsSent ls)) (ap (λ (k : Client). k.held.links.items) c.take_phase.ensures.rest) c.join_and_draw.ensures.as_sent

pub returns-in-Drawn-clause-as_sent : goal.returns-in-Drawn-clause-as_sent
returns-in-Drawn-clause-as_sent g c = c.send.ensures.as_sent _

pub returns-in-Preparing-clause-as_sent : goal.returns-in-Preparing-clause-as_sent
returns-in-Preparing-clause-as_sent g c = c.prepare_or_decide.ensures.as_sent _
