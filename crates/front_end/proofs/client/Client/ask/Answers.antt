use Rattle.client_state.specs.Owing.{asking_in}
use Rattle.client_state.proofs.Pending.{asks_in}
use Rattle.client_state.proofs.Writing.{nothing_unsent}
use Rattle.client_state.specs.Pending.{pending_in}
use Rattle.client_state.specs.Writing.{unsent}
use Rattle.front_end.proofs.Stepping.{asks_from_phase, never_none}
use Rattle.front_end.proofs.client.Client.ask.Goals as goal
use Rattle.front_end.specs.declared.client.Client.{Client}
use Rattle.std.proofs.Common.{ap, sym, ◌∙◌}

pub returns-in-Some-clause-writes : goal.returns-in-Some-clause-writes
returns-in-Some-clause-writes g c = c.ask_coordinator.ensures.writes (ap (λ (k : Client). unsent k.phase) c.take_phase.ensures.rest)

pub returns-in-None-clause-writes : goal.returns-in-None-clause-writes
returns-in-None-clause-writes g c = nothing_unsent _ _ (ap (λ (k : Client). unsent k.phase) c.take_phase.ensures.rest)

pub returns-in-Some-clause-moves : goal.returns-in-Some-clause-moves
returns-in-Some-clause-moves g c = λ some. asks_from_phase _ _ _ _ c.args.self.now _ _ _ _ _ _ c.take_phase.ensures.rest (ap pending_in (sym c.take_phase.ensures.phase) ∙ asks_in _ _ _ (sym c.into_asking.ensures.asked ∙ c.in-Some.is)) c.ask_coordinator.result (c.ask_coordinator.ensures.moves (ap (λ (k : Client). k.phase) c.take_phase.ensures.rest))

pub returns-in-None-clause-moves : goal.returns-in-None-clause-moves
returns-in-None-clause-moves g c = λ some. absurd (never_none _ some (ap asking_in (sym c.take_phase.ensures.phase) ∙ (sym c.into_asking.ensures.asked ∙ c.in-None.is)))
