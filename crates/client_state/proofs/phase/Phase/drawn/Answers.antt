use Rattle.client_state.proofs.Writing.{carried_write, is_drawn}
use Rattle.client_state.proofs.phase.Phase.drawn.Goals as goal
use Rattle.client_state.specs.Sending.{DrawsPhase}
use Rattle.client_state.specs.Writing.{PhaseWrites}
use Rattle.client_state.specs.declared.phase.Phase.TheVariants as phase
use Rattle.client_state.specs.declared.phase.Phase.{Phase}
use Rattle.std.proofs.Common.{refl, subst, sym}

pub returns-in-Evaluated-clause-draws : goal.returns-in-Evaluated-clause-draws
returns-in-Evaluated-clause-draws c = subst (λ (p : Phase). DrawsPhase c.args.ts c.args.links.now p (phase.Drawn c.args.ts c.carry_sessions.new.self)) (sym c.in-Evaluated.is) (record {
  transaction = c.carry_sessions.new.self;
  phase_is = refl;
  rest = c.carry_sessions.ensures.rest;
  carries = c.carry_sessions.ensures.carries;
})

pub returns-in-Evaluated-clause-writes : goal.returns-in-Evaluated-clause-writes
returns-in-Evaluated-clause-writes c = λ copies w.
    is_drawn c.args.ts c.in-Evaluated.transaction c.carry_sessions.new.self copies (carried_write c.args.links.now c.in-Evaluated.transaction.shares.items c.carry_sessions.new.self.shares.items c.carry_sessions.ensures.carries) (subst (λ (p : Phase). PhaseWrites p copies) c.in-Evaluated.is w)
