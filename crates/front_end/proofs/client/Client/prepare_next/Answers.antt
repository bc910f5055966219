use Rattle.client_state.proofs.Moving.{less_itself}
use Rattle.client_state.proofs.Writing.{nothing_unsent}
use Rattle.client_state.specs.Pending.{IsPreparing, pending_in}
use Rattle.client_state.specs.Sending.{IsOfSession, SendsShare}
use Rattle.client_state.specs.Writing.{unsent}
use Rattle.client_state.specs.declared.requests.Sending.{Sending}
use Rattle.front_end.proofs.Stepping.{by_rest_free, from_phase, sends_more}
use Rattle.front_end.proofs.client.Client.prepare_next.Goals as goal
use Rattle.front_end.specs.declared.client.Client.{Client}
use Rattle.std.proofs.Common.{[], ap, inl, inr, refl, subst, ◌≡◌}
use Rattle.std.specs.Prelude.{IfSome, MatchOption, Option}

pub returns-in-Some-clause-moves : goal.returns-in-Some-clause-moves
returns-in-Some-clause-moves g c = λ item who idle. let tx = subst (λ (o : Option Sending). IfSome o (λ s. s.request.tx ≡ c.args.ts)) c.in-Some.is c.in_ok-sending.ensures.tx in let sends = subst (λ (o : Option Sending). MatchOption o (c.args.transaction.shares.items ≡ []) (SendsShare c.args.self.now.held.links.items c.args.who c.args.ts c.args.transaction c.next_sending-sending.new.transaction)) c.in-Some.is c.in_ok-sending.ensures.sends in let of = subst (λ (o : Option Sending). IfSome o (IsOfSession c.args.self.now.held.links.items)) c.in-Some.is c.in_ok-sending.ensures.session in from_phase _ item _ _ c.args.self.now c.set_phase.new.self c.prepare_more.new.self _ _ _ c.set_phase.ensures refl c.prepare_more.result (c.prepare_more.ensures.moves item _ (sends_more item c.set_phase.new.self c.args.who c.args.ts c.args.coordinator c.args.prepared c.args.transaction c.next_sending-sending.new.transaction c.in-Some.sending (rw (c.set_phase.ensures) sends) who tx (ap (λ (k : Client). pending_in k.phase) c.set_phase.ensures)) (rw (c.set_phase.ensures) of) (rw (c.set_phase.ensures) idle))

pub returns-in_err-sending-clause-writes : goal.returns-in_err-sending-clause-writes
returns-in_err-sending-clause-writes g c = nothing_unsent _ _ (ap (λ (k : Client). unsent k.phase) c.set_phase.ensures)

pub returns-in-Some-clause-writes : goal.returns-in-Some-clause-writes
returns-in-Some-clause-writes g c = c.prepare_more.ensures.writes (ap (λ (k : Client). unsent k.phase) c.set_phase.ensures)

pub returns-in-None-clause-writes : goal.returns-in-None-clause-writes
returns-in-None-clause-writes g c = nothing_unsent _ _ (ap (λ (k : Client). unsent k.phase) c.set_phase.ensures)

pub returns-in-None-clause-moves : goal.returns-in-None-clause-moves
returns-in-None-clause-moves g c = λ item who idle. let none = subst (λ (o : Option Sending). MatchOption o (c.args.transaction.shares.items ≡ []) (SendsShare c.args.self.now.held.links.items c.args.who c.args.ts c.args.transaction c.next_sending-sending.new.transaction)) c.in-None.is c.in_ok-sending.ensures.sends in rw (c.set_phase.ensures) (λ drawn. by_rest_free _ item _ c.args.self.now.held c.args.self.now.held _ _ _ _ _ (less_itself c.args.self.now.held) (inr (ap (IsPreparing c.args.coordinator c.args.ts c.args.prepared) (c.in_ok-sending.ensures.still c.in-None.is), λ at written. written)) refl refl refl refl drawn (inl refl) (λ und x. refl))
