use Rattle.client_state.specs.declared.duties.Abort.{Abort}
use Rattle.front_end.proofs.Stepping.{takes_counted, takes_none}
use Rattle.front_end.proofs.front_end.FrontEnd.move_on.Goals as goal
use Rattle.front_end.specs.Stepping.{present_of}
use Rattle.std.proofs.Common.{ap, refl, rules, sym, ◌∙◌}
use Rattle.std.proofs.lemmas.Result.{on_ok_weaker}
use Rattle.std.specs.Prelude.{Option}

pub returns-in-Some-clause-moves : goal.returns-in-Some-clause-moves
returns-in-Some-clause-moves g c = on_ok_weaker c.abort.result (λ steps. takes_none _ _ _ c.args.self.now _ steps refl) (c.abort.ensures.moves (present_of c.args.self.now) c.args.self.now.client.duties (search rules) refl refl c.take.ensures.after)

-- nothing was to be aborted, so nothing has changed before the rule
pub returns-in-None-clause-moves : goal.returns-in-None-clause-moves
returns-in-None-clause-moves g c = on_ok_weaker c.follow.result (takes_counted _ _ _ c.args.self.now _ c.follow.new.self (ap (λ (o : Option Abort). record c.args.self.now.client { duties = record c.args.self.now.client.duties { abort = o } }) (c.take.ensures.after ∙ (sym c.in-None.is ∙ c.take.ensures.value))) refl refl refl) c.follow.ensures.moves
