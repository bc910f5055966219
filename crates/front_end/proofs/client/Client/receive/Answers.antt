use Rattle.client_port.specs.Acting.{RefusesReceive}
use Rattle.front_end.proofs.Acting.{by_receive}
use Rattle.front_end.proofs.Receiving.{gave_message, gave_none, gave_refusal, no_message}
use Rattle.front_end.proofs.Showing.{taken_so}
use Rattle.front_end.proofs.Stepping.{by_message_so, by_none_so, by_refusal_so, same_duties, notes_same}
use Rattle.front_end.proofs.client.Client.receive.Goals as goal
use Rattle.std.proofs.Common.{inr, refl}

pub returns-in_err-take-in-Ok-Some-clause-acts : goal.returns-in_err-take-in-Ok-Some-clause-acts
returns-in_err-take-in-Ok-Some-clause-acts g c = by_receive _ _ _ _ _ _ c.receive.ensures.call

pub returns-in_ok-take-in-Ok-Some-clause-acts : goal.returns-in_ok-take-in-Ok-Some-clause-acts
returns-in_ok-take-in-Ok-Some-clause-acts g c = by_receive _ _ _ _ _ _ c.receive.ensures.call

pub returns-in-Ok-None-clause-acts : goal.returns-in-Ok-None-clause-acts
returns-in-Ok-None-clause-acts g c = by_receive _ _ _ _ _ _ c.receive.ensures.call

pub returns-in_ok-take-in-Ok-Some-clause-shown : goal.returns-in_ok-take-in-Ok-Some-clause-shown
returns-in_ok-take-in-Ok-Some-clause-shown g c = λ s. c.in_ok-take-in-Ok-Some.ensures.shown _ _ _ (taken_so _ _ _ c.args.at.repo c.args.at.session c.in-Ok-Some.field-0 c.in-Ok-Some.message c.in-Ok-Some.field-0-is c.in-Ok-Some.ensures.call s)

pub returns-in_err-end_unless_gone-in-Err-clause-acts : goal.returns-in_err-end_unless_gone-in-Err-clause-acts
returns-in_err-end_unless_gone-in-Err-clause-acts g c = by_receive _ _ _ _ _ _ c.receive.ensures.call

pub returns-in_ok-end_unless_gone-in-Err-clause-acts : goal.returns-in_ok-end_unless_gone-in-Err-clause-acts
returns-in_ok-end_unless_gone-in-Err-clause-acts g c = by_receive _ _ _ _ _ _ c.receive.ensures.call

pub returns-in_ok-end_unless_gone-in-Err-clause-shown : goal.returns-in_ok-end_unless_gone-in-Err-clause-shown
returns-in_ok-end_unless_gone-in-Err-clause-shown g c = λ s. c.in_ok-end_unless_gone-in-Err.ensures.shown _ _ _ (RefusesReceive c.args.at.session (c.in-Err.ensures.call s))

pub returns-in_ok-take-in-Ok-Some-clause-moves : goal.returns-in_ok-take-in-Ok-Some-clause-moves
returns-in_ok-take-in-Ok-Some-clause-moves g c = λ item joined. by_message_so item _ _ c.args.at c.args.self.now.held c.receive.new.self c.take.new.self.held c.receive.ensures.rest joined _ _ _ _ _ _ c.in_ok-take-in-Ok-Some.ensures.ends c.in_ok-take-in-Ok-Some.ensures.duties c.in_ok-take-in-Ok-Some.ensures.notes.0 _ c.in_ok-take-in-Ok-Some.ensures.notes.1 c.in-Ok-Some.field-0 c.in-Ok-Some.message c.in-Ok-Some.field-0-is c.in-Ok-Some.ensures.call c.in-Ok-Some.ensures.links c.in_ok-take-in-Ok-Some.ensures.takes c.in_ok-take-in-Ok-Some.ensures.stays c.in_ok-take-in-Ok-Some.ensures.wrote

pub returns-in-Ok-None-clause-moves : goal.returns-in-Ok-None-clause-moves
returns-in-Ok-None-clause-moves g c = λ item joined. by_none_so item _ _ _ c.args.at c.args.self.now.held c.receive.new.self (no_message _ _ _ c.args.at c.args.self.now.held c.receive.new.self c.receive.ensures.rest c.in-Ok-None.field-0 c.in-Ok-None.field-0-is c.in-Ok-None.ensures.call c.in-Ok-None.ensures.links) joined _ _ refl _ _ (same_duties c.args.self.now.duties c.args.self.now.duties refl) (notes_same c.args.self.now c.args.self.now refl refl).0 _ (inr refl)

pub returns-in-Ok-None-clause-none : goal.returns-in-Ok-None-clause-none
returns-in-Ok-None-clause-none g c = λ none. no_message _ _ _ c.args.at c.args.self.now.held c.receive.new.self c.receive.ensures.rest c.in-Ok-None.field-0 c.in-Ok-None.field-0-is c.in-Ok-None.ensures.call c.in-Ok-None.ensures.links

pub returns-in_ok-end_unless_gone-in-Err-clause-moves : goal.returns-in_ok-end_unless_gone-in-Err-clause-moves
returns-in_ok-end_unless_gone-in-Err-clause-moves g c = λ item joined. by_refusal_so item _ _ c.args.at c.args.self.now.held c.receive.new.self c.end_unless_gone.new.self.held c.receive.ensures.rest joined _ _ _ _ _ _ c.in_ok-end_unless_gone-in-Err.ensures.news c.in_ok-end_unless_gone-in-Err.ensures.duties c.in_ok-end_unless_gone-in-Err.ensures.notes.0 _ c.in_ok-end_unless_gone-in-Err.ensures.notes.1 c.in-Err.refusal c.in-Err.ensures.call c.in-Err.ensures.links c.in_ok-end_unless_gone-in-Err.ensures.ends c.in_ok-end_unless_gone-in-Err.ensures.stays c.in_ok-end_unless_gone-in-Err.ensures.wrote

pub returns-in_err-take-in-Ok-Some-clause-writes : goal.returns-in_err-take-in-Ok-Some-clause-writes
returns-in_err-take-in-Ok-Some-clause-writes g c = λ w. c.take.ensures.writes (rw (c.receive.ensures.rest) w)

pub returns-in_ok-take-in-Ok-Some-clause-writes : goal.returns-in_ok-take-in-Ok-Some-clause-writes
returns-in_ok-take-in-Ok-Some-clause-writes g c = λ w. c.take.ensures.writes (rw (c.receive.ensures.rest) w)

pub returns-in-Ok-None-clause-writes : goal.returns-in-Ok-None-clause-writes
returns-in-Ok-None-clause-writes g c = λ w. rw (c.receive.ensures.rest) w

pub returns-in_err-end_unless_gone-in-Err-clause-writes : goal.returns-in_err-end_unless_gone-in-Err-clause-writes
returns-in_err-end_unless_gone-in-Err-clause-writes g c = λ w. c.end_unless_gone.ensures.writes (rw (c.receive.ensures.rest) w)

pub returns-in_ok-end_unless_gone-in-Err-clause-writes : goal.returns-in_ok-end_unless_gone-in-Err-clause-writes
returns-in_ok-end_unless_gone-in-Err-clause-writes g c = λ w. c.end_unless_gone.ensures.writes (rw (c.receive.ensures.rest) w)

pub returns-in_ok-take-in-Ok-Some-clause-gives_up : goal.returns-in_ok-take-in-Ok-Some-clause-gives_up
returns-in_ok-take-in-Ok-Some-clause-gives_up g c = gave_message _ _ _ c.args.at _ _ c.in-Ok-Some.field-0 c.in-Ok-Some.message c.in-Ok-Some.field-0-is c.in-Ok-Some.ensures.call c.in_ok-take-in-Ok-Some.ensures.gives_up

pub returns-in-Ok-None-clause-gives_up : goal.returns-in-Ok-None-clause-gives_up
returns-in-Ok-None-clause-gives_up g c = gave_none _ _ _ c.args.at _ _ c.in-Ok-None.field-0 c.in-Ok-None.field-0-is c.in-Ok-None.ensures.call

pub returns-in_ok-end_unless_gone-in-Err-clause-gives_up : goal.returns-in_ok-end_unless_gone-in-Err-clause-gives_up
returns-in_ok-end_unless_gone-in-Err-clause-gives_up g c = gave_refusal _ _ _ c.args.at _ _ c.in-Err.refusal c.in-Err.ensures.call
