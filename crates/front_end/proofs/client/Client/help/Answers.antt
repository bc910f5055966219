use Rattle.client_state.proofs.Moving.{less_itself}
use Rattle.client_state.proofs.Pending.{stays_itself}
use Rattle.client_state.specs.declared.duties.Helping.TheVariants as helping
use Rattle.front_end.proofs.Stepping.{by_help_so, stays_noted}
use Rattle.front_end.proofs.client.Client.help.Goals as goal
use Rattle.std.proofs.Common.{ap, inr, refl, ◌∙◌}
use Rattle.std.specs.Prelude.{None, Some}

pub returns-in_ok-finish-in-Finish-clause-moves : goal.returns-in_ok-finish-in-Finish-clause-moves
returns-in_ok-finish-in-Finish-clause-moves g c = λ item was. by_help_so _ item _ _ c.args.self.now.held c.args.self.now.held _ _ c.args.self.now.duties _ _ c.in-Finish.refuser c.in-Finish.verdict c.in_ok-finish-in-Finish.ensures.told (less_itself c.args.self.now.held) (stays_itself _ c.args.self.now.held) (record { v = c.in-Finish.verdict; was = was ∙ ap Some c.in-Finish.is; tx = refl; commits = refl; verdicts = refl; helping = refl }) refl (stays_noted _ _ c.args.self.now.duties (record c.args.self.now.duties { helping = None }) refl refl) _ (inr refl) (λ x. refl)

pub returns-in-Ask-clause-moves : goal.returns-in-Ask-clause-moves
returns-in-Ask-clause-moves g c = λ item was. c.ask_about.ensures.moves item c.args.self.now.duties refl refl refl
