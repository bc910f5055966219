use Rattle.client_state.specs.Drawing.{drawn_in}
use Rattle.client_state.specs.Settling.{SettlesAsSent}
use Rattle.client_items.specs.Courses.{IsDownAt, is_committed}
use Rattle.client_items.specs.declared.news.Learnt.{Learnt}
use Rattle.client_state.proofs.Moving.{less_itself}
use Rattle.client_state.proofs.Pending.{stays_itself}
use Rattle.client_state.specs.Handing.{IsHelpTold, MayTell, helps_by}
use Rattle.client_state.specs.Pending.{pending_in}
use Rattle.client_state.specs.Showing.{IsToldBy}
use Rattle.client_state.specs.declared.duties.Duty.{Duty}
use Rattle.client_state.specs.declared.duties.Helping.TheVariants as helping
use Rattle.client_state.specs.declared.duties.Helping.{Helping}
use Rattle.front_end.proofs.Acting.{by_ask}
use Rattle.front_end.proofs.Showing.{learnt_of}
use Rattle.front_end.proofs.Stepping.{by_ask_so, by_rest, by_settled_so, told_so, told_there, stays_noted}
use Rattle.front_end.proofs.client.Client.ask_about.Goals as goal
use Rattle.std.proofs.Common.{List, ap, inl, inr, refl, subst, sym, ◌∙◌, ◌≡◌}
use Rattle.std.specs.Prelude.{IfSome, Option}

pub returns-in_err-settled-in-Ok-Settled-clause-acts : goal.returns-in_err-settled-in-Ok-Settled-clause-acts
returns-in_err-settled-in-Ok-Settled-clause-acts g c = by_ask _ _ _ _ _ _ c.ask.ensures.call

pub returns-in-Some-clause-acts : goal.returns-in-Some-clause-acts
returns-in-Some-clause-acts g c = by_ask _ _ _ _ _ _ c.ask.ensures.call

pub returns-in-None-clause-acts : goal.returns-in-None-clause-acts
returns-in-None-clause-acts g c = by_ask _ _ _ _ _ _ c.ask.ensures.call

pub returns-in-Ok-Undecided-clause-acts : goal.returns-in-Ok-Undecided-clause-acts
returns-in-Ok-Undecided-clause-acts g c = by_ask _ _ _ _ _ _ c.ask.ensures.call

pub returns-in-Err-NoMemory-clause-acts : goal.returns-in-Err-NoMemory-clause-acts
returns-in-Err-NoMemory-clause-acts g c = by_ask _ _ _ _ _ _ c.ask.ensures.call

pub returns-in-Err-clause-acts : goal.returns-in-Err-clause-acts
returns-in-Err-clause-acts g c = by_ask _ _ _ _ _ _ c.ask.ensures.call

pub returns-in-Some-clause-shown : goal.returns-in-Some-clause-shown
returns-in-Some-clause-shown g c = learnt_of _ _ _ _ c.args.ts c.in-Ok-Settled.field-0 c.in-Ok-Settled.verdict c.in-Ok-Settled.field-0-is c.in-Ok-Settled.ensures.call c.in-Some.field-0.settled (subst (λ (o : Option Learnt). IfSome o (λ l. l.settled.ts ≡ c.in-Ok-Settled.verdict.tx)) c.in-Some.is c.in_ok-settled-in-Ok-Settled.ensures.tx) (subst (λ (o : Option Learnt). IfSome o (λ l. is_committed l.settled.outcome ≡ c.in-Ok-Settled.verdict.commit)) c.in-Some.is c.in_ok-settled-in-Ok-Settled.ensures.stands) (subst (λ (o : Option Learnt). IfSome o (λ l. IsDownAt c.args.ts.repo l.settled.outcome)) c.in-Some.is c.in_ok-settled-in-Ok-Settled.ensures.down)

pub returns-in-Some-clause-moves : goal.returns-in-Some-clause-moves
returns-in-Some-clause-moves g c = λ item d verdicts none abort. by_settled_so _ item _ _ c.args.self.now.held c.learn_verdict.new.self.held _ _ d _ _ _ c.args.ts c.in-Ok-Settled.field-0 c.in-Ok-Settled.verdict c.in-Ok-Settled.field-0-is c.in-Ok-Settled.ensures.call (ap pending_in c.in_ok-settled-in-Ok-Settled.ensures.phase) c.in_ok-settled-in-Ok-Settled.ensures.cache c.in_ok-settled-in-Ok-Settled.ensures.settles refl (λ s. let told : IsToldBy (g.Q.Port.view c.args.port.now) (g.Q.Port.view c.ask.new.self) c.args.ts.repo c.in-Ok-Settled.verdict.tx c.in-Ok-Settled.verdict.commit = told_so _ _ _ _ c.args.ts c.in-Ok-Settled.field-0 c.in-Ok-Settled.verdict c.in-Ok-Settled.field-0-is c.in-Ok-Settled.ensures.call s in record { verdicts = inl (subst (λ (ds : List Duty). MayTell (g.Q.Port.view c.args.port.now) (g.Q.Port.view c.ask.new.self) (pending_in c.args.self.now.phase) c.args.self.now.held.links.items ds c.learn_verdict.new.self.duties.verdicts) verdicts (c.in_ok-settled-in-Ok-Settled.ensures.hands (pending_in c.args.self.now.phase) _ _ told)); helping = inr (subst (λ (o : Option Helping). IsHelpTold (g.Q.Port.view c.args.port.now) (g.Q.Port.view c.ask.new.self) (helps_by o)) (sym c.in_ok-settled-in-Ok-Settled.ensures.helping) (told_there _ _ _ _ c.args.ts c.in-Ok-Settled.field-0 c.in-Ok-Settled.verdict c.in-Ok-Settled.field-0-is c.in-Ok-Settled.ensures.call s refl)) }) (stays_noted _ _ d c.learn_verdict.new.self.duties (ap pending_in c.in_ok-settled-in-Ok-Settled.ensures.phase) (c.in_ok-settled-in-Ok-Settled.ensures.abort ∙ abort)) _ (inr (ap drawn_in c.in_ok-settled-in-Ok-Settled.ensures.phase))

pub returns-in-None-clause-moves : goal.returns-in-None-clause-moves
returns-in-None-clause-moves g c = λ item d verdicts none abort. by_settled_so _ item _ _ c.args.self.now.held c.learn_verdict.new.self.held _ _ d _ _ _ c.args.ts c.in-Ok-Settled.field-0 c.in-Ok-Settled.verdict c.in-Ok-Settled.field-0-is c.in-Ok-Settled.ensures.call (ap pending_in c.in_ok-settled-in-Ok-Settled.ensures.phase) c.in_ok-settled-in-Ok-Settled.ensures.cache c.in_ok-settled-in-Ok-Settled.ensures.settles refl (λ s. let told : IsToldBy (g.Q.Port.view c.args.port.now) (g.Q.Port.view c.ask.new.self) c.args.ts.repo c.in-Ok-Settled.verdict.tx c.in-Ok-Settled.verdict.commit = told_so _ _ _ _ c.args.ts c.in-Ok-Settled.field-0 c.in-Ok-Settled.verdict c.in-Ok-Settled.field-0-is c.in-Ok-Settled.ensures.call s in record { verdicts = inl (subst (λ (ds : List Duty). MayTell (g.Q.Port.view c.args.port.now) (g.Q.Port.view c.ask.new.self) (pending_in c.args.self.now.phase) c.args.self.now.held.links.items ds c.learn_verdict.new.self.duties.verdicts) verdicts (c.in_ok-settled-in-Ok-Settled.ensures.hands (pending_in c.args.self.now.phase) _ _ told)); helping = inr (subst (λ (o : Option Helping). IsHelpTold (g.Q.Port.view c.args.port.now) (g.Q.Port.view c.ask.new.self) (helps_by o)) (sym c.in_ok-settled-in-Ok-Settled.ensures.helping) (told_there _ _ _ _ c.args.ts c.in-Ok-Settled.field-0 c.in-Ok-Settled.verdict c.in-Ok-Settled.field-0-is c.in-Ok-Settled.ensures.call s refl)) }) (stays_noted _ _ d c.learn_verdict.new.self.duties (ap pending_in c.in_ok-settled-in-Ok-Settled.ensures.phase) (c.in_ok-settled-in-Ok-Settled.ensures.abort ∙ abort)) _ (inr (ap drawn_in c.in_ok-settled-in-Ok-Settled.ensures.phase))

pub returns-in-Ok-Undecided-clause-moves : goal.returns-in-Ok-Undecided-clause-moves
returns-in-Ok-Undecided-clause-moves g c = λ item d verdicts none abort. by_ask_so _ item _ _ c.args.self.now.held c.args.self.now.held _ _ d _ _ _ c.args.ts c.ask.result c.ask.ensures.call (less_itself c.args.self.now.held) (stays_itself _ c.args.self.now.held) refl (λ s. record { verdicts = inl (inl verdicts); helping = inr (subst (λ (o : Option Helping). IsHelpTold (g.Q.Port.view c.args.port.now) (g.Q.Port.view c.ask.new.self) (helps_by o)) (sym none) tt) }) (stays_noted _ _ d c.args.self.now.duties refl abort) _ (inr refl) (λ x. refl)

pub returns-in-Err-clause-moves : goal.returns-in-Err-clause-moves
returns-in-Err-clause-moves g c = λ item d verdicts none abort. by_ask_so _ item _ _ c.args.self.now.held c.args.self.now.held _ _ d _ _ _ c.args.ts c.ask.result c.ask.ensures.call (less_itself c.args.self.now.held) (stays_itself _ c.args.self.now.held) refl (λ s. record { verdicts = inl (inl verdicts); helping = inr (subst (λ (o : Option Helping). IsHelpTold (g.Q.Port.view c.args.port.now) (g.Q.Port.view c.ask.new.self) (helps_by o)) (sym none) tt) }) (stays_noted _ _ d c.args.self.now.duties refl abort) _ (inr refl) (λ x. refl)

pub returns-then-ts-opened-clause-moves : goal.returns-then-ts-opened-clause-moves
returns-then-ts-opened-clause-moves g c = λ item d verdicts none abort. by_rest _ item _ c.args.self.now.held c.args.self.now.held _ _ d _ _ (less_itself c.args.self.now.held) (stays_itself _ c.args.self.now.held) refl (λ s. record { verdicts = inl (inl verdicts); helping = inr (subst (λ (o : Option Helping). IsHelpTold (g.Q.Port.view c.args.port.now) (g.Q.Port.view c.args.port.now) (helps_by o)) (sym none) tt) }) (stays_noted _ _ d c.args.self.now.duties refl abort) _ (inr refl) (λ und x. refl)

pub returns-in-Some-clause-as_sent : goal.returns-in-Some-clause-as_sent
returns-in-Some-clause-as_sent g c = subst (λ (o : Option Learnt). IfSome o (λ l. SettlesAsSent c.args.self.now.held.links.items l.settled)) c.in-Some.is c.in_ok-settled-in-Ok-Settled.ensures.as_sent
