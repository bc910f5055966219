use Rattle.client_state.specs.declared.duties.Duties.{Duties}
use Rattle.front_end.proofs.Stepping.{none_undecided, notes_from}
use Rattle.client_state.specs.Receiving.{EndsReceive, LosesThere}
use Rattle.client_state.specs.declared.held.Held.{Held}
use Rattle.front_end.proofs.Showing.{try_shown}
use Rattle.front_end.proofs.client.Client.end_unless_gone.Goals as goal
use Rattle.front_end.specs.Showing.{ByRefusal}
use Rattle.std.proofs.Common.{Bool, ap, inl, subst}
use Rattle.std.specs.Prelude.{not}

pub returns-clause-shown : goal.returns-clause-shown
returns-clause-shown c = λ old new repos refuses. try_shown old new repos _ _ c.end_in_outage.ensures.news (ByRefusal (record { repo = c.args.repo; refusal = c.args.refusal; call = refuses; cause_is = c.in_ok-cause.ensures.cause }))

pub returns-then-lose_session-clause-ends : goal.returns-then-lose_session-clause-ends
returns-then-lose_session-clause-ends c = LosesThere c.lose_session.ensures.loses c.lose_session.ensures.client

pub returns-clause-ends : goal.returns-clause-ends
returns-clause-ends c = subst (λ (h : Held). EndsReceive c.args.refusal c.args.repo h c.end_in_outage.new.self.held) (c.lose_session.ensures.rest (ap (λ (b : Bool). not b) c.if-lose_session.false)) (c.end_in_outage.ensures.ends c.args.refusal (c.lose_session.ensures.gone (ap (λ (b : Bool). not b) c.if-lose_session.false)))

pub returns-clause-stays : goal.returns-clause-stays
returns-clause-stays c = inl c.end_in_outage.ensures.free

pub returns-then-lose_session-clause-stays : goal.returns-then-lose_session-clause-stays
returns-then-lose_session-clause-stays c = c.lose_session.ensures.stays

pub returns-clause-notes : goal.returns-clause-notes
returns-clause-notes c = notes_from c.args.self.now c.lose_session.new.self c.end_in_outage.new.self (c.lose_session.ensures.phase (ap (λ (b : Bool). not b) c.if-lose_session.false)) (ap (λ (x : Duties). x.abort) c.lose_session.ensures.duties) c.end_in_outage.ensures.notes

pub returns-clause-wrote : goal.returns-clause-wrote
returns-clause-wrote c = none_undecided _ c.end_in_outage.ensures.free
