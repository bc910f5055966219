use Rattle.client_state.specs.Participants.{sent_of}
use Rattle.client_state.specs.Pending.{IsPreparing}
use Rattle.front_end.proofs.client.Client.decide_prepared.Goals as goal
use Rattle.front_end.specs.Stepping.{TriesFrom}
use Rattle.std.proofs.Common.{ap, refl, subst, sym, ◌∙◌}
use Rattle.std.specs.Prelude.{IfOk}
use Rattle.thor_value.specs.declared.names.Ts.{Ts}

pub returns-clause-moves : goal.returns-clause-moves
returns-clause-moves g c = λ item left none idle. subst (λ (t : Ts). IfOk c.decide.result (TriesFrom g.Q.Port.shows item (g.Q.Port.view c.args.port.now) (g.Q.Port.view c.decide.new.port) (IsPreparing c.args.coordinator t c.args.prepared c.args.transaction) c.args.self.now c.decide.new.self)) c.sent.ensures.ts (c.decide.ensures.moves item (IsPreparing c.args.coordinator c.sent.result.ts c.args.prepared c.args.transaction) c.args.transaction (record { rs = c.args.prepared; was = refl; sent = left; all = c.if-not-is_prepared_by.ensures refl }) (c.sent.ensures.all ∙ ap (λ (t : Ts). sent_of t c.args.coordinator c.args.transaction) (sym c.sent.ensures.ts)) none idle)
