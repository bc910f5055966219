use Rattle.client_port.specs.Acting.{RefusesPrepare}
use Rattle.client_state.proofs.Moving.{less_itself}
use Rattle.client_state.proofs.Writing.{nothing_unsent}
use Rattle.client_state.specs.Drawing.{drawn_in}
use Rattle.client_state.specs.Pending.{IsPreparing, pending_in}
use Rattle.client_state.specs.Stepping.{PreparesFirst, RefusesFirst}
use Rattle.client_state.specs.Writing.{unsent}
use Rattle.front_end.proofs.Acting.{by_prepare}
use Rattle.front_end.proofs.Stepping.{by_prepare_refused_so, by_prepare_so, each_if, keeps_noted, same_duties}
use Rattle.front_end.proofs.client.Client.prepare_first.Goals as goal
use Rattle.front_end.specs.declared.client.Client.{Client}
use Rattle.std.proofs.Common.{List, [], ap, inl, refl, sym, ℕ, ◌∙◌}
use Rattle.std.proofs.lemmas.Result.{IfOk-weaker}
use Rattle.std.specs.Prelude.{Some}
use Rattle.thor_value.specs.declared.names.Ts.{Ts}

pub returns-in-Ok-clause-acts : goal.returns-in-Ok-clause-acts
returns-in-Ok-clause-acts g c = by_prepare _ _ _ _ _ c.args.sending.request _ c.prepare.ensures.call

pub returns-in-Err-clause-acts : goal.returns-in-Err-clause-acts
returns-in-Err-clause-acts g c = by_prepare _ _ _ _ _ c.args.sending.request _ c.prepare.ensures.call

pub returns-in-Err-clause-shown : goal.returns-in-Err-clause-shown
returns-in-Err-clause-shown g c = λ repos. IfOk-weaker c.end_refused.result _ _ (λ n told s. told _ _ _ (RefusesPrepare _ c.args.sending.request (c.in-Err.ensures.call s))) c.end_refused.ensures.shown

pub returns-in-Ok-clause-moves : goal.returns-in-Ok-clause-moves
returns-in-Ok-clause-moves g c = λ item none tx drawn apart held of idle. rw (c.set_phase.ensures) (by_prepare_so _ item _ _ c.args.self.now.held c.args.self.now.held _ _ _ _ _ c.args.sending of c.in-Ok.field-0 c.in-Ok.ensures.call (less_itself c.args.self.now.held) (inl (ap (λ (t : Ts). Some (c.args.sending.at, t)) (sym tx))) (PreparesFirst c.args.transaction drawn (λ there. held) (ap (λ (ps : List ℕ). IsPreparing c.args.sending.at c.args.ts ps c.args.transaction) c.new-prepared.ensures ∙ ap (λ (t : Ts). IsPreparing c.args.sending.at t [] c.args.transaction) (sym tx))) refl (same_duties c.args.self.now.duties c.args.self.now.duties refl) refl _ ((refl, refl), apart) (λ x. refl))

pub returns-in-Err-clause-moves : goal.returns-in-Err-clause-moves
returns-in-Err-clause-moves g c = λ item none tx drawn apart held of idle. each_if c.end_refused.result (λ n quiet keeps over notes. by_prepare_refused_so _ item _ _ c.args.self.now.held c.end_refused.new.self.held _ _ _ _ n c.args.sending of idle c.in-Err.refusal c.in-Err.ensures.call c.end_refused.ensures.learns c.end_refused.ensures.client (inl (ap pending_in over)) (RefusesFirst c.args.transaction drawn) quiet keeps over (keeps_noted c.args.self.now c.end_refused.new.self notes (ap pending_in none)) _ ((refl, ap drawn_in over), apart)) c.end_refused.ensures.ends c.end_refused.ensures.duties c.end_refused.ensures.phase c.end_refused.ensures.notes

pub returns-in-Ok-clause-writes : goal.returns-in-Ok-clause-writes
returns-in-Ok-clause-writes g c = λ none. nothing_unsent _ _ (ap (λ (k : Client). unsent k.phase) c.set_phase.ensures)

pub returns-in-Err-clause-writes : goal.returns-in-Err-clause-writes
returns-in-Err-clause-writes g c = λ none. c.end_refused.ensures.writes (nothing_unsent _ _ none)
