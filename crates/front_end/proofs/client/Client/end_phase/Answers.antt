use Rattle.client_state.specs.Pending.{NonePending, abort_in, pending_in}
use Rattle.front_end.proofs.Stepping.{none_noted, nothing_noted, some_noted}
use Rattle.front_end.proofs.client.Client.end_phase.Goals as goal
use Rattle.std.proofs.Common.{ap, inl, refl, sym, ◌∙◌}

pub returns-in-Some-clause-notes : goal.returns-in-Some-clause-notes
returns-in-Some-clause-notes c = rw (c.note_abort.ensures, c.take_phase.ensures.rest) ((some_noted c.args.self.now.phase c.in-Some.abort c.args.self.now.duties.abort (ap abort_in (sym c.take_phase.ensures.phase) ∙ (sym c.into_abort.ensures.abort ∙ c.in-Some.is))), inl refl)

pub returns-in-Some-clause-verdicts : goal.returns-in-Some-clause-verdicts
returns-in-Some-clause-verdicts c = rw (c.note_abort.ensures, c.take_phase.ensures.rest) (refl, refl, (λ none. some_noted c.args.self.now.phase c.in-Some.abort c.args.self.now.duties.abort (ap abort_in (sym c.take_phase.ensures.phase) ∙ (sym c.into_abort.ensures.abort ∙ c.in-Some.is)) ∙ none_noted (pending_in c.args.self.now.phase) NonePending c.args.self.now.duties.abort none), inl refl)

pub returns-in-None-clause-notes : goal.returns-in-None-clause-notes
returns-in-None-clause-notes c = rw (c.take_phase.ensures.rest) ((nothing_noted c.args.self.now.phase NonePending c.args.self.now.duties.abort (ap abort_in (sym c.take_phase.ensures.phase) ∙ (sym c.into_abort.ensures.abort ∙ c.in-None.is))), inl refl)

pub returns-in-None-clause-verdicts : goal.returns-in-None-clause-verdicts
returns-in-None-clause-verdicts c = rw (c.take_phase.ensures.rest) (refl, refl, (λ none. refl), inl refl)
