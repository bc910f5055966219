use Rattle.client_items.specs.Meanings.{is_ended}
use Rattle.client_state.specs.Receiving.{LosesThere}
use Rattle.front_end.proofs.Acting.{by_receive}
use Rattle.front_end.proofs.Receiving.{gave_message, gave_none, gave_refusal, no_message, whenever}
use Rattle.front_end.proofs.Showing.{nothing_shown, taken_so}
use Rattle.front_end.proofs.Stepping.{by_message_so, by_none_so, by_refusal_so, every_more_if, notes_same, same_duties}
use Rattle.front_end.proofs.client.Client.receive_delivered.Goals as goal
use Rattle.std.proofs.Common.{ap, inr, refl}
use Rattle.std.proofs.lemmas.Result.{IfOk-weaker, on_ok_weaker}

pub returns-in-Ok-Some-clause-acts : goal.returns-in-Ok-Some-clause-acts
returns-in-Ok-Some-clause-acts g c = by_receive _ _ _ _ _ _ c.receive.ensures.call

pub returns-in-Ok-None-clause-acts : goal.returns-in-Ok-None-clause-acts
returns-in-Ok-None-clause-acts g c = by_receive _ _ _ _ _ _ c.receive.ensures.call

pub returns-in-Ok-Some-clause-shown : goal.returns-in-Ok-Some-clause-shown
returns-in-Ok-Some-clause-shown g c = IfOk-weaker c.take.result _ _ (λ n told s. told _ _ _ (taken_so _ _ _ c.args.at.repo c.args.at.session c.in-Ok-Some.field-0 c.in-Ok-Some.message c.in-Ok-Some.field-0-is c.in-Ok-Some.ensures.call s)) c.take.ensures.shown

pub returns-in-Err-clause-acts : goal.returns-in-Err-clause-acts
returns-in-Err-clause-acts g c = by_receive _ _ _ _ _ _ c.receive.ensures.call

pub returns-in-Ok-Some-clause-moves : goal.returns-in-Ok-Some-clause-moves
returns-in-Ok-Some-clause-moves g c = λ item joined. every_more_if c.take.result (λ n quiet takes stays keeps notes wrote. by_message_so item _ _ c.args.at c.args.self.now.held c.receive.new.self c.take.new.self.held c.receive.ensures.rest joined _ _ _ _ _ n quiet keeps notes.0 _ notes.1 c.in-Ok-Some.field-0 c.in-Ok-Some.message c.in-Ok-Some.field-0-is c.in-Ok-Some.ensures.call c.in-Ok-Some.ensures.links takes stays wrote) c.take.ensures.ends c.take.ensures.takes c.take.ensures.stays c.take.ensures.duties c.take.ensures.notes c.take.ensures.wrote

pub returns-in-Ok-None-clause-moves : goal.returns-in-Ok-None-clause-moves
returns-in-Ok-None-clause-moves g c = λ item joined. by_none_so item _ _ _ c.args.at c.args.self.now.held c.receive.new.self (no_message _ _ _ c.args.at c.args.self.now.held c.receive.new.self c.receive.ensures.rest c.in-Ok-None.field-0 c.in-Ok-None.field-0-is c.in-Ok-None.ensures.call c.in-Ok-None.ensures.links) joined _ _ refl _ _ (same_duties c.args.self.now.duties c.args.self.now.duties refl) (notes_same c.args.self.now c.args.self.now refl refl).0 _ (inr refl)

pub returns-in-Err-clause-moves : goal.returns-in-Err-clause-moves
returns-in-Err-clause-moves g c = λ item joined. IfOk-weaker c.lose_delivered.result _ _ (λ n is. by_refusal_so item _ _ c.args.at c.args.self.now.held c.receive.new.self c.lose_delivered.new.self.held c.receive.ensures.rest joined _ _ _ _ _ n (ap is_ended is) (same_duties c.args.self.now.duties c.lose_delivered.new.self.duties c.lose_delivered.ensures.duties) c.lose_delivered.ensures.notes.0 _ c.lose_delivered.ensures.notes.1 c.in-Err.refusal c.in-Err.ensures.call c.in-Err.ensures.links (LosesThere c.lose_delivered.ensures.loses c.lose_delivered.ensures.client) c.lose_delivered.ensures.stays c.lose_delivered.ensures.wrote) c.lose_delivered.ensures.news

pub returns-in-Err-clause-shown : goal.returns-in-Err-clause-shown
returns-in-Err-clause-shown g c = IfOk-weaker c.lose_delivered.result _ _ (λ n is s. nothing_shown _ _ _ n is) c.lose_delivered.ensures.news

pub returns-in-Ok-Some-clause-writes : goal.returns-in-Ok-Some-clause-writes
returns-in-Ok-Some-clause-writes g c = λ w. c.take.ensures.writes (rw (c.receive.ensures.rest) w)

pub returns-in-Ok-None-clause-writes : goal.returns-in-Ok-None-clause-writes
returns-in-Ok-None-clause-writes g c = λ w. rw (c.receive.ensures.rest) w

pub returns-in-Err-clause-writes : goal.returns-in-Err-clause-writes
returns-in-Err-clause-writes g c = λ w. c.lose_delivered.ensures.writes (rw (c.receive.ensures.rest) w)

pub returns-in-Ok-Some-clause-gives_up : goal.returns-in-Ok-Some-clause-gives_up
returns-in-Ok-Some-clause-gives_up g c = on_ok_weaker c.take.result (gave_message _ _ _ c.args.at _ _ c.in-Ok-Some.field-0 c.in-Ok-Some.message c.in-Ok-Some.field-0-is c.in-Ok-Some.ensures.call) c.take.ensures.gives_up

pub returns-in-Ok-None-clause-gives_up : goal.returns-in-Ok-None-clause-gives_up
returns-in-Ok-None-clause-gives_up g c = gave_none _ _ _ c.args.at _ _ c.in-Ok-None.field-0 c.in-Ok-None.field-0-is c.in-Ok-None.ensures.call

pub returns-in-Err-clause-gives_up : goal.returns-in-Err-clause-gives_up
returns-in-Err-clause-gives_up g c = whenever c.lose_delivered.result (gave_refusal _ _ _ c.args.at _ _ c.in-Err.refusal c.in-Err.ensures.call)
