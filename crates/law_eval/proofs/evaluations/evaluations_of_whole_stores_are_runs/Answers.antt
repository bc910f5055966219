use Rattle.method_eval.specs.Names.{listed}
use Rattle.serial_model.proofs.WholeStore.{evaluation_is_run, listed_supply}
use Rattle.law_eval.proofs.evaluations.evaluations_of_whole_stores_are_runs.Goals as goal

pub returns : goal.returns
returns c = λ tx schema view names roots none. evaluation_is_run schema tx names roots view (listed names) none (listed_supply names)
