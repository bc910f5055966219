use Rattle.client_state.proofs.Moving.{less_itself}
use Rattle.client_state.proofs.Pending.{stays_itself}
use Rattle.client_state.specs.declared.duties.Duty.{Duty}
use Rattle.front_end.proofs.Stepping.{by_forget_so, stays_noted}
use Rattle.front_end.proofs.client.Client.do_next.Goals as goal
use Rattle.std.proofs.Common.{ap, inr, refl, ◌∙◌, ◌∷◌}
use Rattle.std.proofs.lemmas.Result.{on_ok_weaker}

pub returns-in-Forget-clause-moves : goal.returns-in-Forget-clause-moves
returns-in-Forget-clause-moves g c = λ item d was helping abort. on_ok_weaker c.forget.result (λ told. by_forget_so _ item _ _ c.args.self.now.held c.args.self.now.held _ _ d _ _ c.in-Forget.ts told (less_itself c.args.self.now.held) (stays_itself _ c.args.self.now.held) (record { coordinator = refl; first = was ∙ ap (λ (x : Duty). x ∷ c.args.self.now.duties.verdicts) c.in-Forget.is; helping = helping }) refl (stays_noted _ _ d c.args.self.now.duties refl abort) _ (inr refl) (λ x. refl)) c.forget.ensures.told

pub returns-in-Finish-clause-moves : goal.returns-in-Finish-clause-moves
returns-in-Finish-clause-moves g c = λ item d was helping abort. c.finish_next.ensures.moves item d (was ∙ ap (λ (x : Duty). x ∷ c.args.self.now.duties.verdicts) c.in-Finish.is) helping abort
