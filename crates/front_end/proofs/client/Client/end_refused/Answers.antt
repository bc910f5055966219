use Rattle.front_end.specs.declared.client.Client.{Client}
use Rattle.front_end.proofs.Stepping.{notes_from}
use Rattle.client_state.proofs.Pending.{stays_itself}
use Rattle.client_state.specs.Pending.{pending_in}
use Rattle.front_end.proofs.Requesting.{no_cause_learns}
use Rattle.front_end.proofs.Showing.{try_shown}
use Rattle.front_end.proofs.client.Client.end_refused.Goals as goal
use Rattle.front_end.specs.Showing.{ByRefusal}
use Rattle.std.proofs.Common.{ap, inl}

pub returns-clause-shown : goal.returns-clause-shown
returns-clause-shown c = λ old new repos refuses. try_shown old new repos _ _ c.end_try.ensures.news (ByRefusal (record { repo = c.args.repo; refusal = c.args.refusal; call = refuses; cause_is = c.in_ok-cause.ensures.cause }))

pub returns-in_err-cause-clause-learns : goal.returns-in_err-cause-clause-learns
returns-in_err-cause-clause-learns c = no_cause_learns c.args.refusal c.args.repo c.args.self.now.held c.in_err-cause.ensures.none

pub returns-in_err-cause-clause-stays : goal.returns-in_err-cause-clause-stays
returns-in_err-cause-clause-stays c = stays_itself (pending_in c.args.self.now.phase) c.args.self.now.held

pub returns-clause-stays : goal.returns-clause-stays
returns-clause-stays c = inl (ap pending_in c.end_try.ensures.phase)

pub returns-clause-notes : goal.returns-clause-notes
returns-clause-notes c = notes_from c.args.self.now c.note_helping.new.self c.end_try.new.self (ap (λ (k : Client). k.phase) c.note_helping.ensures.rest) (ap (λ (k : Client). k.duties.abort) c.note_helping.ensures.rest) c.end_try.ensures.notes
