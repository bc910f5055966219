use Rattle.client_state.specs.Pending.{pending_in}
use Rattle.client_state.specs.Writing.{unsent}
use Rattle.front_end.proofs.Stepping.{drawn_as}
use Rattle.front_end.proofs.client.Client.go_on_with.Goals as goal
use Rattle.front_end.specs.declared.client.Client.{Client}
use Rattle.std.proofs.Common.{ap, ◌∙◌}

pub returns-clause-phase : goal.returns-clause-phase
returns-clause-phase c = ap (λ (k : Client). unsent k.phase) c.set_phase.ensures ∙ (c.transforming-phase.ensures.shares ∙ ap unsent c.take_phase.ensures.phase)

pub returns-clause-pending : goal.returns-clause-pending
returns-clause-pending c = ap (λ (k : Client). pending_in k.phase) c.set_phase.ensures ∙ (c.transforming-phase.ensures.pending ∙ ap pending_in c.take_phase.ensures.phase)

pub returns-clause-drawn : goal.returns-clause-drawn
returns-clause-drawn c = λ undrawn. drawn_as _ c.set_phase.new.self.phase c.args.self.now.phase c.transforming-phase.result c.take_phase.result (ap (λ (k : Client). k.phase) c.set_phase.ensures) c.take_phase.ensures.phase undrawn c.transforming-phase.ensures.stage
