use Rattle.client_port.specs.Acting.{RefusesPrepare}
use Rattle.client_state.proofs.Moving.{less_itself}
use Rattle.client_state.proofs.Writing.{nothing_unsent}
use Rattle.client_state.specs.Drawing.{drawn_in}
use Rattle.client_state.specs.Pending.{pending_in}
use Rattle.front_end.proofs.Acting.{by_prepare}
use Rattle.front_end.proofs.Stepping.{by_prepare_refused_so, by_prepare_so, each_if, more_noted, more_out, more_pends, more_prepared, more_refused, more_undrawn, refused_noted, refused_out, same_duties}
use Rattle.front_end.proofs.client.Client.prepare.Goals as goal
use Rattle.std.proofs.Common.{ap, inl, refl, ◌∙◌}
use Rattle.std.proofs.lemmas.Result.{IfOk-weaker}

pub returns-in_err-note_prepared-in-Ok-clause-acts : goal.returns-in_err-note_prepared-in-Ok-clause-acts
returns-in_err-note_prepared-in-Ok-clause-acts g c = by_prepare _ _ _ _ _ c.args.sending.request _ c.prepare.ensures.call

pub returns-in_ok-note_prepared-in-Ok-clause-acts : goal.returns-in_ok-note_prepared-in-Ok-clause-acts
returns-in_ok-note_prepared-in-Ok-clause-acts g c = by_prepare _ _ _ _ _ c.args.sending.request _ c.prepare.ensures.call

pub returns-in-Err-clause-acts : goal.returns-in-Err-clause-acts
returns-in-Err-clause-acts g c = by_prepare _ _ _ _ _ c.args.sending.request _ c.prepare.ensures.call

pub returns-in-Err-clause-shown : goal.returns-in-Err-clause-shown
returns-in-Err-clause-shown g c = λ repos. IfOk-weaker c.end_refused.result _ _ (λ n told s. told _ _ _ (RefusesPrepare _ c.args.sending.request (c.in-Err.ensures.call s))) c.end_refused.ensures.shown

pub returns-in_ok-note_prepared-in-Ok-clause-moves : goal.returns-in_ok-note_prepared-in-Ok-clause-moves
returns-in_ok-note_prepared-in-Ok-clause-moves g c = λ item a more holds of idle drawn. by_prepare_so _ item _ _ c.args.self.now.held c.args.self.now.held _ _ _ _ _ c.args.sending of c.in-Ok.field-0 c.in-Ok.ensures.call (less_itself c.args.self.now.held) (more_pends item c.args.self.now c.args.sending a _ more c.in_ok-note_prepared-in-Ok.ensures.pending) (more_prepared item c.args.self.now c.args.sending a _ more c.in_ok-note_prepared-in-Ok.ensures.pending holds) refl (same_duties c.args.self.now.duties c.args.self.now.duties refl) (more_noted item c.args.self.now c.args.sending a _ more c.args.self.now.duties c.in_ok-note_prepared-in-Ok.ensures.pending) drawn (more_out item c.args.self.now c.args.sending a _ more c.in_ok-note_prepared-in-Ok.ensures.pending holds drawn _ (inl (c.in_ok-note_prepared-in-Ok.ensures.drawn ∙ more_undrawn item c.args.self.now c.args.sending a a more))) (λ x. refl)

pub returns-in-Err-clause-moves : goal.returns-in-Err-clause-moves
returns-in-Err-clause-moves g c = λ item a more holds of idle. each_if c.end_refused.result (λ n quiet ends keeps notes drawn. by_prepare_refused_so _ item _ _ c.args.self.now.held c.end_refused.new.self.held _ _ _ _ n c.args.sending of idle c.in-Err.refusal c.in-Err.ensures.call c.end_refused.ensures.learns c.end_refused.ensures.client (inl (ap pending_in ends)) (more_refused item c.args.self.now c.args.sending a (pending_in c.end_refused.new.self.phase) more) quiet keeps ends (refused_noted item c.args.self.now c.args.sending a (pending_in c.end_refused.new.self.phase) more c.args.self.now.duties c.end_refused.new.self.duties notes.0) drawn (refused_out item c.args.self.now c.args.sending a (pending_in c.end_refused.new.self.phase) more drawn _ (inl (ap drawn_in ends)))) c.end_refused.ensures.ends c.end_refused.ensures.phase c.end_refused.ensures.duties c.end_refused.ensures.notes

pub returns-in_err-note_prepared-in-Ok-clause-writes : goal.returns-in_err-note_prepared-in-Ok-clause-writes
returns-in_err-note_prepared-in-Ok-clause-writes g c = λ none. nothing_unsent _ _ (c.note_prepared.ensures.shares ∙ none)

pub returns-in_ok-note_prepared-in-Ok-clause-writes : goal.returns-in_ok-note_prepared-in-Ok-clause-writes
returns-in_ok-note_prepared-in-Ok-clause-writes g c = λ none. nothing_unsent _ _ (c.note_prepared.ensures.shares ∙ none)

pub returns-in-Err-clause-writes : goal.returns-in-Err-clause-writes
returns-in-Err-clause-writes g c = λ none. c.end_refused.ensures.writes (nothing_unsent _ _ none)
