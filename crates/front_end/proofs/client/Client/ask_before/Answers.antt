use Rattle.client_state.specs.Drawing.{drawn_in}
use Rattle.client_state.specs.Settling.{SettlesAsSent}
use Rattle.client_items.specs.Courses.{IsDownAt, is_committed}
use Rattle.client_items.specs.declared.news.Learnt.{Learnt}
use Rattle.client_port.specs.Acting.{RefusesAsk}
use Rattle.client_state.proofs.Moving.{less_itself}
use Rattle.client_state.specs.Causes.{cause_behind}
use Rattle.client_state.specs.declared.duties.Helping.TheVariants as helping
use Rattle.front_end.proofs.Acting.{by_ask}
use Rattle.front_end.proofs.Calling.{asked_nothing, asked_settled}
use Rattle.front_end.proofs.Showing.{learnt_of}
use Rattle.front_end.proofs.Stepping.{hands_none, told_so}
use Rattle.front_end.proofs.client.Client.ask_before.Goals as goal
use Rattle.repo_refusals.specs.declared.refusal.Refusal.{Refusal}
use Rattle.std.proofs.Common.{ap, inl, inr, refl, subst, ◌≡◌}
use Rattle.std.specs.Prelude.{IfSome, Option, Some}

pub returns-in_err-learnt-in-Ok-Settled-clause-acts : goal.returns-in_err-learnt-in-Ok-Settled-clause-acts
returns-in_err-learnt-in-Ok-Settled-clause-acts g c = by_ask _ _ _ _ _ _ c.ask.ensures.call

pub returns-in_err-cause_of-in-Err-clause-acts : goal.returns-in_err-cause_of-in-Err-clause-acts
returns-in_err-cause_of-in-Err-clause-acts g c = by_ask _ _ _ _ _ _ c.ask.ensures.call

pub returns-in-Some-clause-acts : goal.returns-in-Some-clause-acts
returns-in-Some-clause-acts g c = by_ask _ _ _ _ _ _ c.ask.ensures.call

pub returns-in-None-clause-acts : goal.returns-in-None-clause-acts
returns-in-None-clause-acts g c = by_ask _ _ _ _ _ _ c.ask.ensures.call

pub returns-in-Ok-Undecided-clause-acts : goal.returns-in-Ok-Undecided-clause-acts
returns-in-Ok-Undecided-clause-acts g c = by_ask _ _ _ _ _ _ c.ask.ensures.call

pub returns-in_ok-cause_of-in-Err-clause-acts : goal.returns-in_ok-cause_of-in-Err-clause-acts
returns-in_ok-cause_of-in-Err-clause-acts g c = by_ask _ _ _ _ _ _ c.ask.ensures.call

pub returns-in-Some-clause-shown : goal.returns-in-Some-clause-shown
returns-in-Some-clause-shown g c = learnt_of _ _ _ _ c.args.ts c.in-Ok-Settled.field-0 c.in-Ok-Settled.verdict c.in-Ok-Settled.field-0-is c.in-Ok-Settled.ensures.call c.in-Some.learnt.settled (subst (λ (o : Option Learnt). IfSome o (λ l. l.settled.ts ≡ c.in-Ok-Settled.verdict.tx)) c.in-Some.is c.in_ok-learnt-in-Ok-Settled.ensures.tx) (subst (λ (o : Option Learnt). IfSome o (λ l. is_committed l.settled.outcome ≡ c.in-Ok-Settled.verdict.commit)) c.in-Some.is c.in_ok-learnt-in-Ok-Settled.ensures.stands) (subst (λ (o : Option Learnt). IfSome o (λ l. IsDownAt c.args.repo l.settled.outcome)) c.in-Some.is c.in_ok-learnt-in-Ok-Settled.ensures.down)

pub returns-in_ok-cause_of-in-Err-clause-shown : goal.returns-in_ok-cause_of-in-Err-clause-shown
returns-in_ok-cause_of-in-Err-clause-shown g c = λ s. record { repo = c.args.repo; refusal = c.in-Err.refusal; call = RefusesAsk c.args.ts (c.in-Err.ensures.call s); cause_is = subst (λ (e : Refusal). cause_behind e c.args.repo ≡ Some c.in_ok-cause_of-in-Err.field-0) c.in-Err.refusal-is c.in_ok-cause_of-in-Err.ensures.cause }

pub returns-in-Some-clause-moves : goal.returns-in-Some-clause-moves
returns-in-Some-clause-moves g c = asked_settled _ _ _ _ c.args.ts c.in-Ok-Settled.field-0 c.in-Ok-Settled.verdict c.in-Ok-Settled.field-0-is c.in-Ok-Settled.ensures.call _ _ c.in_ok-learnt-in-Ok-Settled.ensures.settles

pub returns-in-None-clause-moves : goal.returns-in-None-clause-moves
returns-in-None-clause-moves g c = asked_settled _ _ _ _ c.args.ts c.in-Ok-Settled.field-0 c.in-Ok-Settled.verdict c.in-Ok-Settled.field-0-is c.in-Ok-Settled.ensures.call _ _ c.in_ok-learnt-in-Ok-Settled.ensures.settles

pub returns-in-Ok-Undecided-clause-moves : goal.returns-in-Ok-Undecided-clause-moves
returns-in-Ok-Undecided-clause-moves g c = asked_nothing _ _ _ _ c.args.ts c.ask.result _ _ c.ask.ensures.call (less_itself c.args.self.now.held)

pub returns-in_ok-cause_of-in-Err-clause-moves : goal.returns-in_ok-cause_of-in-Err-clause-moves
returns-in_ok-cause_of-in-Err-clause-moves g c = asked_nothing _ _ _ _ c.args.ts c.ask.result _ _ c.ask.ensures.call (less_itself c.args.self.now.held)

pub returns-in-Some-clause-hands : goal.returns-in-Some-clause-hands
returns-in-Some-clause-hands g c = ((λ a s. record { verdicts = inl (c.in_ok-learnt-in-Ok-Settled.ensures.hands a _ _ (told_so _ _ _ _ c.args.ts c.in-Ok-Settled.field-0 c.in-Ok-Settled.verdict c.in-Ok-Settled.field-0-is c.in-Ok-Settled.ensures.call s)); helping = inl c.in_ok-learnt-in-Ok-Settled.ensures.helping }), (λ none. c.in_ok-learnt-in-Ok-Settled.ensures.abort), λ s. inl (inr (ap drawn_in c.in_ok-learnt-in-Ok-Settled.ensures.phase)))

pub returns-in-None-clause-hands : goal.returns-in-None-clause-hands
returns-in-None-clause-hands g c = ((λ a s. record { verdicts = inl (c.in_ok-learnt-in-Ok-Settled.ensures.hands a _ _ (told_so _ _ _ _ c.args.ts c.in-Ok-Settled.field-0 c.in-Ok-Settled.verdict c.in-Ok-Settled.field-0-is c.in-Ok-Settled.ensures.call s)); helping = inl c.in_ok-learnt-in-Ok-Settled.ensures.helping }), (λ none. c.in_ok-learnt-in-Ok-Settled.ensures.abort), λ s. inl (inr (ap drawn_in c.in_ok-learnt-in-Ok-Settled.ensures.phase)))

pub returns-in-Ok-Undecided-clause-hands : goal.returns-in-Ok-Undecided-clause-hands
returns-in-Ok-Undecided-clause-hands g c = hands_none _ _ _ c.args.self.now c.args.self.now refl (inr refl)

pub returns-in_ok-cause_of-in-Err-clause-hands : goal.returns-in_ok-cause_of-in-Err-clause-hands
returns-in_ok-cause_of-in-Err-clause-hands g c = hands_none _ _ _ c.args.self.now c.args.self.now refl (inr refl)

pub returns-in-Some-clause-as_sent : goal.returns-in-Some-clause-as_sent
returns-in-Some-clause-as_sent g c = subst (λ (o : Option Learnt). IfSome o (λ l. SettlesAsSent c.args.self.now.held.links.items l.settled)) c.in-Some.is c.in_ok-learnt-in-Ok-Settled.ensures.as_sent
