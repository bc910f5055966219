use Rattle.client_state.specs.declared.duties.Duties.{Duties}
use Rattle.client_items.specs.Meanings.{is_ended}
use Rattle.client_state.specs.Pending.{IsAsking, asked_at, prepared_at, pending_in}
use Rattle.client_state.specs.Showing.{ToldByDecision}
use Rattle.client_state.specs.declared.transaction.Sent.{Sent}
use Rattle.front_end.proofs.Acting.{by_decide}
use Rattle.front_end.proofs.Showing.{nothing_shown}
use Rattle.front_end.proofs.Stepping.{both_if, by_decide_refused_so, decided_so, same_duties, asking_noted}
use Rattle.front_end.proofs.client.Client.decide.Goals as goal
use Rattle.std.proofs.Common.{ap, refl, true, ◌∙◌}
use Rattle.std.proofs.lemmas.Result.{IfOk-weaker, on_ok_weaker}

pub returns-in-Ok-clause-acts : goal.returns-in-Ok-clause-acts
returns-in-Ok-clause-acts g c = by_decide _ _ _ _ _ _ _ _ c.decide.ensures.call

pub returns-in-Err-clause-acts : goal.returns-in-Err-clause-acts
returns-in-Err-clause-acts g c = by_decide _ _ _ _ _ _ _ _ c.decide.ensures.call

pub returns-in-Ok-clause-shown : goal.returns-in-Ok-clause-shown
returns-in-Ok-clause-shown g c = IfOk-weaker c.learn_own.result _ _ (λ n told s. told _ _ _ (ToldByDecision c.args.coordinator.session true c.in-Ok.verdict refl (c.in-Ok.ensures.call s))) c.learn_own.ensures.shown

pub returns-in-Ok-clause-moves : goal.returns-in-Ok-clause-moves
returns-in-Ok-clause-moves g c = λ item a transaction all is none idle. decided_so _ item _ _ c.args.self.now.held c.learn_own.new.self.held _ _ _ a c.args.coordinator c.args.sent c.in-Ok.verdict c.in-Ok.ensures.call idle transaction all is c.learn_own.result c.learn_own.ensures.ends (c.learn_own.ensures.over none) c.learn_own.ensures.own c.learn_own.ensures.hands c.learn_own.ensures.helping (on_ok_weaker c.learn_own.result (λ keeps. keeps (ap pending_in none)) c.learn_own.ensures.abort)

pub returns-in-Err-clause-moves : goal.returns-in-Err-clause-moves
returns-in-Err-clause-moves g c = λ item a transaction all is none idle. both_if c.ask_behind.result (λ n nothing asks drawn. by_decide_refused_so _ item _ _ c.args.self.now.held c.ask_behind.new.self.held _ _ _ _ n c.args.coordinator c.args.sent.ts c.in-Err.refusal c.in-Err.ensures.call c.ask_behind.ensures.loses c.ask_behind.ensures.client (ap prepared_at all.was, ap asked_at (asks ∙ ap (λ (x : Sent). IsAsking x 0) is)) transaction all (asks ∙ ap (λ (x : Sent). IsAsking x 0) is) (ap is_ended nothing) (same_duties _ _ c.ask_behind.ensures.duties) (asking_noted a _ c.args.self.now.duties c.ask_behind.new.self.duties c.args.sent 0 asks (ap (λ (x : Duties). x.abort) c.ask_behind.ensures.duties)) drawn c.ask_behind.ensures.wrote) c.ask_behind.ensures.news c.ask_behind.ensures.asks

pub returns-in-Err-clause-shown : goal.returns-in-Err-clause-shown
returns-in-Err-clause-shown g c = IfOk-weaker c.ask_behind.result _ _ (λ n is s. nothing_shown _ _ _ n is) c.ask_behind.ensures.news
