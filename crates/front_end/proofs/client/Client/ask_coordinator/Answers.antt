use Rattle.client_state.specs.Written.{LeavesApart}
use Rattle.client_state.specs.declared.duties.Duties.{Duties}
use Rattle.client_state.proofs.Writing.{nothing_unsent}
use Rattle.client_state.specs.Pending.{pending_in}
use Rattle.client_state.specs.Stepping.{AsksInVain}
use Rattle.front_end.proofs.Acting.{by_ask}
use Rattle.front_end.proofs.Showing.{asked_of}
use Rattle.front_end.proofs.Stepping.{answered_so, by_no_answer_so, same_duties}
use Rattle.front_end.proofs.client.Client.ask_coordinator.Goals as goal
use Rattle.std.proofs.Common.{ap, refl, rules, subst, sym, ℕ}
use Rattle.std.proofs.lemmas.Result.{IfOk-weaker, on_ok_weaker}

pub returns-in-Ok-Settled-clause-acts : goal.returns-in-Ok-Settled-clause-acts
returns-in-Ok-Settled-clause-acts g c = by_ask _ _ _ _ _ _ c.ask.ensures.call

pub returns-in-Err-NoMemory-clause-acts : goal.returns-in-Err-NoMemory-clause-acts
returns-in-Err-NoMemory-clause-acts g c = by_ask _ _ _ _ _ _ c.ask.ensures.call

pub returns-in-Ok-Undecided-clause-acts : goal.returns-in-Ok-Undecided-clause-acts
returns-in-Ok-Undecided-clause-acts g c = by_ask _ _ _ _ _ _ c.ask.ensures.call

pub returns-in-Ok-Settled-clause-shown : goal.returns-in-Ok-Settled-clause-shown
returns-in-Ok-Settled-clause-shown g c = IfOk-weaker c.learn_own.result _ _ (λ n told s. told _ _ _ (asked_of _ _ _ _ c.args.sent.ts c.in-Ok-Settled.field-0 c.in-Ok-Settled.verdict c.in-Ok-Settled.field-0-is c.in-Ok-Settled.ensures.call s)) c.learn_own.ensures.shown

pub returns-in-Ok-Undecided-clause-shown : goal.returns-in-Ok-Undecided-clause-shown
returns-in-Ok-Undecided-clause-shown g c = λ s. c.ask_again.ensures.shown _ _ _

pub returns-in-Ok-Settled-clause-moves : goal.returns-in-Ok-Settled-clause-moves
returns-in-Ok-Settled-clause-moves g c = λ none. answered_so _ _ _ _ c.args.self.now.held c.learn_own.new.self.held _ _ _ _ c.args.sent c.args.answers c.in-Ok-Settled.field-0 c.in-Ok-Settled.verdict c.in-Ok-Settled.field-0-is c.in-Ok-Settled.ensures.call c.coordinator-coordinator.ensures c.learn_own.result c.learn_own.ensures.ends (c.learn_own.ensures.over none) c.learn_own.ensures.own c.learn_own.ensures.hands c.learn_own.ensures.helping (on_ok_weaker c.learn_own.result (λ keeps. keeps (ap pending_in none)) c.learn_own.ensures.abort)

pub returns-in-Ok-Undecided-clause-moves : goal.returns-in-Ok-Undecided-clause-moves
returns-in-Ok-Undecided-clause-moves g c = λ none drawn. by_no_answer_so _ _ _ _ c.args.self.now.held c.ask_again.new.self.held _ _ _ _ _ _ c.args.sent.ts c.ask.result c.ask.ensures.call c.ask_again.ensures.leaves c.args.sent.at refl (c.ask_again.ensures.stays c.args.answers (ap pending_in none)) c.args.sent c.args.answers (record { was = refl; tx = refl; coordinator = c.coordinator-coordinator.ensures }) (subst (λ (r : ℕ). AsksInVain (record { who = c.args.task.who; tries = c.args.task.tries }) c.ask_again.new.self.held r c.args.sent c.args.answers (pending_in c.ask_again.new.self.phase) c.ask_again.result) (sym c.coordinator-coordinator.ensures) (c.ask_again.ensures.asks c.args.answers (ap pending_in none) (search rules))) (same_duties _ _ c.ask_again.ensures.duties) (c.ask_again.ensures.over none) (ap (λ (x : Duties). x.abort) c.ask_again.ensures.duties) drawn (c.ask_again.ensures.wrote (ap pending_in none)) (subst (λ (r : ℕ). LeavesApart r c.args.task.who.index c.args.sent c.args.self.now.held c.ask_again.new.self.held) (sym c.coordinator-coordinator.ensures) c.ask_again.ensures.parts)

pub returns-in-Err-NoMemory-clause-writes : goal.returns-in-Err-NoMemory-clause-writes
returns-in-Err-NoMemory-clause-writes g c = λ none. nothing_unsent _ _ none
