use Rattle.client_state.specs.Drawing.{drawn_in}
use Rattle.client_state.specs.declared.duties.Duties.{Duties}
use Rattle.front_end.proofs.Stepping.{free_noted, none_undecided, notes_same}
use Rattle.client_state.specs.Pending.{pending_in}
use Rattle.front_end.proofs.Receiving.{loses_so}
use Rattle.front_end.proofs.client.Client.lose_session.Goals as goal
use Rattle.std.proofs.Common.{ap, inl, inr, refl}

pub returns-then-not-lose_gone-clause-loses : goal.returns-then-not-lose_gone-clause-loses
returns-then-not-lose_gone-clause-loses c = loses_so c.args.refusal c.args.repo c.args.self.now.held c.lose_gone.new.self c.lose_gone.ensures.links c.lose_gone.ensures.copies

pub returns-then-runs_unprepared-clause-stays : goal.returns-then-runs_unprepared-clause-stays
returns-then-runs_unprepared-clause-stays c = inl (ap pending_in c.begin_anew.ensures.phase)

pub returns-else-runs_unprepared-clause-stays : goal.returns-else-runs_unprepared-clause-stays
returns-else-runs_unprepared-clause-stays c = inr (refl, c.lose_gone.ensures.written)

pub returns-then-not-lose_gone-clause-stays : goal.returns-then-not-lose_gone-clause-stays
returns-then-not-lose_gone-clause-stays c = inr (refl, c.lose_gone.ensures.written)

pub returns-then-not-lose_gone-clause-notes : goal.returns-then-not-lose_gone-clause-notes
returns-then-not-lose_gone-clause-notes c = notes_same c.args.self.now (record c.args.self.now { held = c.lose_gone.new.self }) refl refl

pub returns-else-runs_unprepared-clause-notes : goal.returns-else-runs_unprepared-clause-notes
returns-else-runs_unprepared-clause-notes c = notes_same c.args.self.now (record c.args.self.now { held = c.lose_gone.new.self }) refl refl

pub returns-then-runs_unprepared-clause-notes : goal.returns-then-runs_unprepared-clause-notes
returns-then-runs_unprepared-clause-notes c = (free_noted (pending_in c.args.self.now.phase) (pending_in c.begin_anew.new.self.phase) c.args.self.now.duties c.begin_anew.new.self.duties (c.if-runs_unprepared.ensures.free refl) (ap (λ (x : Duties). x.abort) c.begin_anew.ensures.duties), inl (ap drawn_in c.begin_anew.ensures.phase))

pub returns-then-not-lose_gone-clause-wrote : goal.returns-then-not-lose_gone-clause-wrote
returns-then-not-lose_gone-clause-wrote c = λ und. c.lose_gone.ensures.wrote

pub returns-else-runs_unprepared-clause-wrote : goal.returns-else-runs_unprepared-clause-wrote
returns-else-runs_unprepared-clause-wrote c = λ und. c.lose_gone.ensures.wrote

pub returns-then-runs_unprepared-clause-wrote : goal.returns-then-runs_unprepared-clause-wrote
returns-then-runs_unprepared-clause-wrote c = none_undecided _ (ap pending_in c.begin_anew.ensures.phase)
