use Rattle.client_state.specs.Drawing.{drawn_in}
use Rattle.std.specs.Prelude.{IfOk}
use Rattle.client_state.specs.declared.link.Link.{Link}
use Rattle.client_state.specs.Settling.{NewsAsSent}
use Rattle.client_state.proofs.Writing.{is_evaluated}
use Rattle.client_state.specs.Pending.{pending_in}
use Rattle.front_end.proofs.Stepping.{hands_same}
use Rattle.front_end.proofs.client.Client.join_and_draw.Goals as goal
use Rattle.front_end.specs.declared.client.Client.{Client}
use Rattle.std.proofs.Common.{List, ap, inl, subst}

pub returns-in-Some-clause-writes : goal.returns-in-Some-clause-writes
returns-in-Some-clause-writes g c = λ w. c.join_behind.ensures.writes (rw (c.set_phase.ensures) (is_evaluated _ _ w))

pub returns-in-None-clause-writes : goal.returns-in-None-clause-writes
returns-in-None-clause-writes g c = λ w. c.draw.ensures.writes (rw (c.set_phase.ensures) (is_evaluated _ _ w))

pub returns-in-Some-clause-free : goal.returns-in-Some-clause-free
returns-in-Some-clause-free g c = c.join_behind.ensures.free (ap (λ (k : Client). pending_in k.phase) c.set_phase.ensures)

pub returns-in-None-clause-free : goal.returns-in-None-clause-free
returns-in-None-clause-free g c = c.draw.ensures.free (ap (λ (k : Client). pending_in k.phase) c.set_phase.ensures)

pub returns-in-Some-clause-hands : goal.returns-in-Some-clause-hands
returns-in-Some-clause-hands g c = hands_same _ _ _ c.args.self.now c.set_phase.new.self c.join_behind.new.self (ap (λ (k : Client). k.held.links.items) c.set_phase.ensures) (ap (λ (k : Client). k.duties) c.set_phase.ensures) (λ none. ap (λ (k : Client). pending_in k.phase) c.set_phase.ensures) (inl (ap (λ (k : Client). drawn_in k.phase) c.set_phase.ensures)) c.join_behind.result c.join_behind.ensures.hands

pub returns-in-None-clause-hands : goal.returns-in-None-clause-hands
returns-in-None-clause-hands g c = hands_same _ _ _ c.args.self.now c.set_phase.new.self c.draw.new.self (ap (λ (k : Client). k.held.links.items) c.set_phase.ensures) (ap (λ (k : Client). k.duties) c.set_phase.ensures) (λ none. ap (λ (k : Client). pending_in k.phase) c.set_phase.ensures) (inl (ap (λ (k : Client). drawn_in k.phase) c.set_phase.ensures)) c.draw.result c.draw.ensures.hands

pub returns-in-Some-clause-as_sent : goal.returns-in-Some-clause-as_sent
returns-in-Some-clause-as_sent g c = subst (λ (ls : List Link). IfOk c.join_behind.result (NewsAsSent ls)) (ap (λ (k : Client). k.held.links.items) c.set_phase.ensures) c.join_behind.ensures.as_sent

pub returns-in-None-clause-as_sent : goal.returns-in-None-clause-as_sent
returns-in-None-clause-as_sent g c = subst (λ (ls : List Link). IfOk c.draw.result (NewsAsSent ls)) (ap (λ (k : Client). k.held.links.items) c.set_phase.ensures) c.draw.ensures.as_sent
