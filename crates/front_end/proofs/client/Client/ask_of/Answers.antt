use Rattle.front_end.proofs.Acting.{by_ask}
use Rattle.front_end.proofs.Calling.{asked_nothing, asked_settled}
use Rattle.front_end.proofs.Settling.{back_then, settled_then, settled_sent}
use Rattle.std.proofs.Common.{inr}
use Rattle.front_end.proofs.Showing.{settled_of}
use Rattle.front_end.proofs.client.Client.ask_of.Goals as goal

pub returns-in-Ok-Settled-clause-acts : goal.returns-in-Ok-Settled-clause-acts
returns-in-Ok-Settled-clause-acts g c = by_ask _ _ _ _ _ _ c.ask.ensures.call

pub returns-in-Err-NoMemory-clause-acts : goal.returns-in-Err-NoMemory-clause-acts
returns-in-Err-NoMemory-clause-acts g c = by_ask _ _ _ _ _ _ c.ask.ensures.call

pub returns-in-Ok-Undecided-clause-acts : goal.returns-in-Ok-Undecided-clause-acts
returns-in-Ok-Undecided-clause-acts g c = by_ask _ _ _ _ _ _ c.ask.ensures.call

pub returns-in-Ok-Settled-clause-shown : goal.returns-in-Ok-Settled-clause-shown
returns-in-Ok-Settled-clause-shown g c = settled_of _ _ _ c.args.repo c.args.sent.ts c.in-Ok-Settled.field-0 c.in-Ok-Settled.verdict c.in-Ok-Settled.field-0-is c.in-Ok-Settled.ensures.call c.settle-settled.result.settled c.settle-settled.ensures.tx c.settle-settled.ensures.stands c.settle-settled.ensures.down

pub returns-in-Ok-Settled-clause-moves : goal.returns-in-Ok-Settled-clause-moves
returns-in-Ok-Settled-clause-moves g c = λ before takes. asked_settled _ _ _ _ c.args.sent.ts c.in-Ok-Settled.field-0 c.in-Ok-Settled.verdict c.in-Ok-Settled.field-0-is c.in-Ok-Settled.ensures.call _ _ (inr (settled_then _ _ _ before c.args.self.now.held _ takes c.settle-settled.ensures.held))

pub returns-in-Ok-Undecided-clause-moves : goal.returns-in-Ok-Undecided-clause-moves
returns-in-Ok-Undecided-clause-moves g c = λ before takes. asked_nothing _ _ _ _ c.args.sent.ts c.ask.result _ _ c.ask.ensures.call (back_then _ _ _ before c.args.self.now.held _ takes c.set_link.ensures.rest c.set_link.ensures.links)

pub returns-in-Ok-Settled-clause-as_sent : goal.returns-in-Ok-Settled-clause-as_sent
returns-in-Ok-Settled-clause-as_sent g c = λ before takes. settled_sent before.links.items c.args.repo c.args.sent c.args.index _ c.settle-settled.result.settled takes.there c.settle-settled.ensures.index c.settle-settled.ensures.tx c.settle-settled.ensures.stands c.settle-settled.ensures.own

pub returns-in-Ok-Undecided-clause-as_sent : goal.returns-in-Ok-Undecided-clause-as_sent
returns-in-Ok-Undecided-clause-as_sent g c = λ before takes. tt

pub returns-in-Err-NoMemory-clause-as_sent : goal.returns-in-Err-NoMemory-clause-as_sent
returns-in-Err-NoMemory-clause-as_sent g c = λ before takes. tt
