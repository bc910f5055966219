use Rattle.client_state.proofs.Moving.{less_itself}
use Rattle.client_state.proofs.Pending.{stays_itself}
use Rattle.client_state.specs.Handing.{handed}
use Rattle.client_state.specs.Owing.{count_of}
use Rattle.client_state.specs.declared.duties.Duties.{Duties}
use Rattle.front_end.proofs.Acting.{by_decide}
use Rattle.front_end.proofs.Receiving.{whenever}
use Rattle.front_end.proofs.Stepping.{by_abort_refused_so, by_abort_so, owes_no_more}
use Rattle.front_end.proofs.client.Client.abort.Goals as goal
use Rattle.std.proofs.Common.{ap, inr, refl, ◌+◌, ◌∙◌}
use Rattle.std.proofs.lemmas.Result.{on_ok_weaker}

pub returns-in-Ok-clause-acts : goal.returns-in-Ok-clause-acts
returns-in-Ok-clause-acts g c = by_decide _ _ _ _ _ _ _ _ c.decide.ensures.call

pub returns-in-Err-clause-acts : goal.returns-in-Err-clause-acts
returns-in-Err-clause-acts g c = by_decide _ _ _ _ _ _ _ _ c.decide.ensures.call

pub returns-in-Ok-clause-moves : goal.returns-in-Ok-clause-moves
returns-in-Ok-clause-moves g c = λ item d was verdicts helping nothing. on_ok_weaker c.hand_on.result (λ behind. by_abort_so _ item _ _ c.args.self.now.held c.args.self.now.held _ _ d _ _ c.args.abort.coordinator c.args.abort.ts c.in-Ok.verdict c.in-Ok.ensures.call (less_itself c.args.self.now.held) (stays_itself _ c.args.self.now.held) (record { prepared = c.args.abort.prepared; was = was; behind = behind ∙ ap (handed c.in-Ok.verdict c.args.abort.prepared) verdicts; helping = ap (λ (x : Duties). x.helping) c.hand_on.ensures.rest ∙ helping }) refl (ap (λ (x : Duties). x.abort) c.hand_on.ensures.rest ∙ nothing) _ (inr refl) (λ x. refl)) c.hand_on.ensures.handed

pub returns-in-Err-clause-moves : goal.returns-in-Err-clause-moves
returns-in-Err-clause-moves g c = λ item d was verdicts helping nothing. whenever c.leave_prepared.result (by_abort_refused_so _ item _ _ c.args.self.now.held c.leave_prepared.new.self.held _ _ d _ _ c.args.abort.coordinator c.args.abort.ts c.in-Err.refusal c.in-Err.ensures.call c.leave_prepared.ensures.loses c.leave_prepared.ensures.client c.leave_prepared.ensures.stays (record { prepared = c.args.abort.prepared; was = was; verdicts = ap (λ (x : Duties). x.verdicts) c.leave_prepared.ensures.duties ∙ verdicts; helping = ap (λ (x : Duties). x.helping) c.leave_prepared.ensures.duties ∙ helping }) refl (ap (λ (x : Duties). x.abort) c.leave_prepared.ensures.duties ∙ nothing) _ c.leave_prepared.ensures.drawn c.leave_prepared.ensures.wrote)

pub returns-in-Err-clause-owed : goal.returns-in-Err-clause-owed
returns-in-Err-clause-owed g c = owes_no_more c.leave_prepared.result c.args.self.now c.leave_prepared.new.self (count_of c.args.abort.prepared + 1) c.leave_prepared.ensures.left
