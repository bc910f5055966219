use Rattle.front_end.specs.Stepping.{SendsFrom}
use Rattle.std.specs.Prelude.{IfOk, Option}
use Rattle.client_state.specs.declared.link.Link.{Link}
use Rattle.client_state.specs.Settling.{NewsAsSent}
use Rattle.client_state.specs.Pending.{pending_in}
use Rattle.client_state.specs.Writing.{unsent}
use Rattle.front_end.proofs.Stepping.{sends_any, sends_from_phase, sends_idle_from}
use Rattle.front_end.proofs.client.Client.transform.Goals as goal
use Rattle.front_end.specs.declared.client.Client.{Client}
use Rattle.std.proofs.Common.{List, ap, refl, subst, sym}
use Rattle.thor_value.specs.declared.names.Ts.{Ts}

pub returns-in-Ok-clause-moves : goal.returns-in-Ok-clause-moves
returns-in-Ok-clause-moves g c = λ item idle. subst (λ (o : Option Ts). IfOk c.commit_transform.result (SendsFrom g.Q.Port.shows item (g.Q.Port.view c.args.port.now) (g.Q.Port.view c.commit_transform.new.port) o c.args.self.now c.commit_transform.new.self)) (sym c.in-Ok.ensures.timestamp) (sends_from_phase _ _ _ _ c.args.self.now c.set_phase.new.self c.commit_transform.new.self _ _ c.set_phase.ensures c.commit_transform.result (c.commit_transform.ensures.moves item (ap (λ (k : Client). pending_in k.phase) c.set_phase.ensures)) idle)

pub returns-in-Err-clause-moves : goal.returns-in-Err-clause-moves
returns-in-Err-clause-moves g c = λ item idle. sends_any _ _ _ _ c.args.self.now c.collect.new.self _ c.collect.result (sends_idle_from _ _ _ _ c.args.self.now _ _ _ _ c.set_phase.ensures refl refl refl c.collect.result c.collect.ensures.moves (c.collect.ensures.free (ap (λ (k : Client). pending_in k.phase) c.set_phase.ensures)) c.collect.ensures.ends (c.collect.ensures.hands c.in-Err.ensures.undrawn) idle)

pub returns-in-Ok-clause-writes : goal.returns-in-Ok-clause-writes
returns-in-Ok-clause-writes g c = c.commit_transform.ensures.writes (ap (λ (k : Client). unsent k.phase) c.set_phase.ensures)

pub returns-in-Err-clause-writes : goal.returns-in-Err-clause-writes
returns-in-Err-clause-writes g c = c.collect.ensures.writes (ap (λ (k : Client). unsent k.phase) c.set_phase.ensures)

pub returns-in-Ok-clause-as_sent : goal.returns-in-Ok-clause-as_sent
returns-in-Ok-clause-as_sent g c = c.commit_transform.ensures.as_sent _

pub returns-in-Err-clause-as_sent : goal.returns-in-Err-clause-as_sent
returns-in-Err-clause-as_sent g c = subst (λ (ls : List Link). IfOk c.collect.result (NewsAsSent ls)) (ap (λ (k : Client). k.held.links.items) c.set_phase.ensures) c.collect.ensures.as_sent
