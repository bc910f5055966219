use Rattle.client_state.specs.Drawing.{drawn_in}
use Rattle.std.specs.Prelude.{IfOk}
use Rattle.client_state.specs.declared.link.Link.{Link}
use Rattle.client_state.specs.Settling.{NewsAsSent}
use Rattle.client_state.proofs.Writing.{nothing_unsent}
use Rattle.client_state.specs.Moving.{HoldsSame}
use Rattle.client_state.specs.Pending.{pending_in}
use Rattle.client_state.specs.Writing.{unsent}
use Rattle.front_end.proofs.Calling.{same_sends_idle}
use Rattle.front_end.proofs.Stepping.{hands_same}
use Rattle.front_end.proofs.client.Client.evaluate.Goals as goal
use Rattle.front_end.specs.declared.client.Client.{Client}
use Rattle.std.proofs.Common.{List, ap, inl, subst, sym, ◌∙◌}

pub returns-clause-moves : goal.returns-clause-moves
returns-clause-moves g c = same_sends_idle _ _ _ c.args.self.now.held c.set_phase.new.self.held (subst (λ (k : Client). HoldsSame c.args.self.now.held k.held) (sym c.set_phase.ensures) c.in_ok-ran.ensures.same) _ c.go_behind_run.result c.go_behind_run.ensures.moves

pub returns-in_err-ran-clause-writes : goal.returns-in_err-ran-clause-writes
returns-in_err-ran-clause-writes g c = nothing_unsent _ _ (ap (λ (k : Client). unsent k.phase) c.set_phase.ensures)

pub returns-clause-writes : goal.returns-clause-writes
returns-clause-writes g c = c.go_behind_run.ensures.writes (ap (λ (k : Client). unsent k.phase) c.set_phase.ensures) (rw (c.set_phase.ensures) c.in_ok-ran.ensures.wrote)

pub returns-in_err-ran-clause-free : goal.returns-in_err-ran-clause-free
returns-in_err-ran-clause-free g c = ap (λ (k : Client). pending_in k.phase) c.set_phase.ensures

pub returns-clause-free : goal.returns-clause-free
returns-clause-free g c = c.go_behind_run.ensures.free (ap (λ (k : Client). pending_in k.phase) c.set_phase.ensures)

pub returns-clause-hands : goal.returns-clause-hands
returns-clause-hands g c = hands_same _ _ _ c.args.self.now c.set_phase.new.self c.go_behind_run.new.self (ap (λ (k : Client). k.held.links.items) c.set_phase.ensures ∙ c.in_ok-ran.ensures.same.1) (ap (λ (k : Client). k.duties) c.set_phase.ensures) (λ none. ap (λ (k : Client). pending_in k.phase) c.set_phase.ensures) (inl (ap (λ (k : Client). drawn_in k.phase) c.set_phase.ensures)) c.go_behind_run.result c.go_behind_run.ensures.hands

pub returns-clause-as_sent : goal.returns-clause-as_sent
returns-clause-as_sent g c = subst (λ (ls : List Link). IfOk c.go_behind_run.result (NewsAsSent ls)) (ap (λ (k : Client). k.held.links.items) c.set_phase.ensures ∙ c.in_ok-ran.ensures.same.1) c.go_behind_run.ensures.as_sent
