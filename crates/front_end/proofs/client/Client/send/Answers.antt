use Rattle.client_state.proofs.Writing.{nothing_unsent}
use Rattle.client_state.specs.Drawing.{drawn_in}
use Rattle.client_state.specs.Pending.{pending_in}
use Rattle.client_state.specs.Sending.{IsOfSession, SendsShare}
use Rattle.client_state.specs.declared.requests.Sending.{Sending}
use Rattle.front_end.proofs.Stepping.{by_rest_free, sent_under, spent_steps, with_drawn}
use Rattle.front_end.proofs.client.Client.send.Goals as goal
use Rattle.std.proofs.Common.{[], ap, inl, refl, subst, ◌≡◌}
use Rattle.std.proofs.lemmas.Result.{IfOk-weaker}
use Rattle.std.specs.Prelude.{IfSome, MatchOption, Option}

pub returns-in-Some-clause-moves : goal.returns-in-Some-clause-moves
returns-in-Some-clause-moves g c = λ item who none wrote idle. let tx = subst (λ (o : Option Sending). IfSome o (λ s. s.request.tx ≡ c.args.ts)) c.in-Some.is c.in_ok-sending.ensures.tx in sent_under _ item _ _ _ c.args.ts c.args.self.now c.send_first.new.self c.send_first.result tx (IfOk-weaker c.send_first.result _ _ (λ n steps owes s. spent_steps item (g.Q.Port.view c.args.port.now) (g.Q.Port.view c.send_first.new.port) c.args.self.now.held (record c.args.self.now.held { names = c.spend.new.self }) c.send_first.new.self.held _ _ _ _ _ n owes (steps owes s)) (with_drawn item c.args.self.now.held.links.items c.args.self.now.held.cache.cache c.args.who c.args.ts c.args.transaction c.next_sending.new.transaction c.in-Some.sending (subst (λ (o : Option Sending). MatchOption o (c.args.transaction.shares.items ≡ []) (SendsShare c.args.self.now.held.links.items c.args.who c.args.ts c.args.transaction c.next_sending.new.transaction)) c.in-Some.is c.in_ok-sending.ensures.sends) who tx wrote (c.if-not-is_drawn_at.ensures refl) (c.if-not-has_shares_apart.ensures refl) (λ drawn apart. c.send_first.ensures.moves item none tx drawn apart (λ left. (rw (c.in-Some.is) at c.in_ok-sending.ensures.writes) left c.args.self.now.held.cache.cache wrote) (subst (λ (o : Option Sending). IfSome o (IsOfSession c.args.self.now.held.links.items)) c.in-Some.is c.in_ok-sending.ensures.session) idle)))

pub returns-in_err-sending-clause-writes : goal.returns-in_err-sending-clause-writes
returns-in_err-sending-clause-writes g c = λ none. nothing_unsent _ _ none

pub returns-in-None-clause-writes : goal.returns-in-None-clause-writes
returns-in-None-clause-writes g c = λ none. nothing_unsent _ _ none

pub returns-in-None-clause-moves : goal.returns-in-None-clause-moves
returns-in-None-clause-moves g c = λ item who none wrote idle. by_rest_free _ item _ c.args.self.now.held _ _ _ _ _ _ (refl, refl, λ x. inl refl) (inl (ap pending_in none)) refl refl refl refl _ (inl (ap drawn_in none)) (λ und x. refl)
