use Rattle.client_state.proofs.Moving.{less_itself}
use Rattle.client_state.proofs.Pending.{stays_itself}
use Rattle.client_state.specs.Handing.{kept_behind}
use Rattle.client_state.specs.declared.duties.Duties.{Duties}
use Rattle.client_state.specs.declared.duties.Duty.TheVariants.{Finish}
use Rattle.front_end.proofs.Stepping.{by_finish_so, by_rest, stays_noted}
use Rattle.front_end.proofs.client.Client.finish_next.Goals as goal
use Rattle.std.proofs.Common.{Bool, List, ap, inl, inr, refl, ℕ, ◌∙◌, ◌∷◌}
use Rattle.std.proofs.lemmas.Result.{on_ok_weaker}

pub returns-in-None-clause-moves : goal.returns-in-None-clause-moves
returns-in-None-clause-moves g c = λ item d was helping abort. by_rest _ item _ c.args.self.now.held c.args.self.now.held _ _ d _ _ (less_itself c.args.self.now.held) (stays_itself _ c.args.self.now.held) refl (λ s. record { verdicts = inr (record { v = c.args.verdict; forgets = c.args.forgets; first = was ∙ ap (λ (rs : List ℕ). Finish c.args.verdict rs c.args.forgets ∷ c.args.self.now.duties.verdicts) c.in-None.ensures.first }); helping = inl helping }) (stays_noted _ _ d c.args.self.now.duties refl abort) _ (inr refl) (λ und x. refl)

pub returns-in_ok-told-in-Some-clause-moves : goal.returns-in_ok-told-in-Some-clause-moves
returns-in_ok-told-in-Some-clause-moves g c = λ item d was helping abort. on_ok_weaker c.keep_behind.result (λ behind. by_finish_so _ item _ _ c.args.self.now.held c.args.self.now.held _ _ d _ _ c.in-Some.repo c.args.verdict c.in_ok-told-in-Some.told c.in_ok-told-in-Some.ensures.told (less_itself c.args.self.now.held) (stays_itself _ c.args.self.now.held) (record { v = c.args.verdict; to = c.take_next.new.to; forgets = c.args.forgets; rest = c.args.self.now.duties.verdicts; first = was ∙ ap (λ (rs : List ℕ). Finish c.args.verdict rs c.args.forgets ∷ c.args.self.now.duties.verdicts) c.in-Some.ensures.first; tx = refl; commits = refl; behind = behind ∙ ap (λ (b : Bool). kept_behind c.args.verdict c.take_next.new.to b c.args.self.now.duties.verdicts) c.forgets_behind.ensures; helping = ap (λ (x : Duties). x.helping) c.keep_behind.ensures.rest ∙ helping }) refl (stays_noted _ _ d c.keep_behind.new.self refl (ap (λ (x : Duties). x.abort) c.keep_behind.ensures.rest ∙ abort)) _ (inr refl) (λ x. refl)) c.keep_behind.ensures.behind
