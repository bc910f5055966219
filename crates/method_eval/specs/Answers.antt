-- What an evaluation answers, by the run of the transaction over the objects at hand.
use Rattle.std.specs.Prelude.{ℕ, List, [], map, Result, Ok, Err}
use Rattle.thor_value.specs.FiniteMap.{keys}
use Rattle.thor_value.specs.declared.names.Oref.{Oref}
use Rattle.thor_value.specs.declared.values.Answer.TheVariants as answer
use Rattle.thor_value.specs.declared.values.Obj.{Obj}
use Rattle.class_defs.specs.Run.{begun, execute_all}
use Rattle.class_defs.specs.Stored.{in_epoch}
use Rattle.class_defs.specs.declared.machine.Flow.{Flow}
use Rattle.class_defs.specs.declared.machine.Machine.{Machine}
use Rattle.class_defs.specs.declared.machine.Stop.{Stop}
use Rattle.class_defs.specs.declared.machine.Stop.TheVariants as stop
use Rattle.class_defs.specs.declared.statements.Stmt.{Stmt}
use Rattle.class_defs.specs.declared.store.Object.{Object}
use Rattle.class_defs.specs.declared.store.Schema.{Schema}
use Rattle.method_eval.specs.Names.{supply}
use Rattle.method_eval.specs.Viewed.{seen_in}
use Rattle.method_eval.specs.declared.view.Ran.{Ran}
use Rattle.method_eval.specs.declared.view.Ran.TheVariants.{Done, Need, NeedName}
use Rattle.method_eval.specs.declared.view.View.{View}

-- objects as they are stored at an epoch
abbrev pub stored_at : ℕ → List (Oref × Object) → List (Oref × Obj)
stored_at epoch written = map (λ p. (p.0, in_epoch epoch p.1)) written

-- what a run that ended so gives
abbrev pub ran_at : ℕ → Result Flow Stop → Machine → Ran
ran_at epoch (Ok flow) m = Done (answer.Ints m.printed) (keys m.reads) (stored_at epoch m.writes.pairs) m.created
ran_at epoch (Err (stop.Fault f)) m = Done (answer.Fault f) (keys m.reads) [] []
ran_at epoch (Err (stop.Need x owners)) m = Need x owners
ran_at epoch (Err (stop.NeedName repo)) m = NeedName repo

-- The evaluation of a transaction over a view: its run over the objects at hand that aren't due, with the view's names.
unfoldable pub evaluation : List Stmt → Schema → View → Ran
evaluation tx schema view =
    let r = execute_all (seen_in schema view.objects) tx (begun (supply view.names).waiting (supply view.names).stand_in) in
    ran_at view.epoch r.0 r.1
