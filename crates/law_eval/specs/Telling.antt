-- What the answer of an evaluation tells of the run on a whole store, and of evaluations over more objects (this project's).
use Rattle.std.specs.Prelude.{◌≡◌, ◌==◌, if◌then◌else◌, List, Option, Some, None, is_some, length, true}
use Rattle.thor_value.specs.FiniteMap.{get, overwrite}
use Rattle.thor_value.specs.declared.names.Oref.{Oref}
use Rattle.thor_value.specs.declared.values.Answer.{Answer}
use Rattle.thor_value.specs.declared.values.Answer.TheVariants.{Ints, Fault}
use Rattle.class_defs.specs.Run.{takes}
use Rattle.class_defs.specs.declared.statements.Stmt.{Stmt}
use Rattle.class_defs.specs.declared.store.Plain.{Plain}
use Rattle.class_defs.specs.declared.store.Root.{Root}
use Rattle.class_defs.specs.declared.store.Schema.{Schema}
use Rattle.method_eval.specs.Answers.{evaluation}
use Rattle.method_eval.specs.Names.{Names, supply}
use Rattle.method_eval.specs.Viewed.{current}
use Rattle.method_eval.specs.declared.view.Ran.{Ran}
use Rattle.method_eval.specs.declared.view.Ran.TheVariants.{Done, Need, NeedName}
use Rattle.method_eval.specs.declared.view.View.{View}
use Rattle.serial_model.specs.Whole.{plain}

-- The run with these names for its new objects, as its answer and the store behind it. Where the evaluation printed values
-- and its new objects took just the names, and where it ended in a fault and there are no names, the run is defined and
-- gives what the evaluation gave. Elsewhere it is undefined.
abbrev pub TellsOfRun : List Oref → List Root → View → Ran → Option (Answer × Plain) → Type 0
TellsOfRun names roots view (Done (Ints ints) reads writes fresh) e =
    e ≡ (if takes fresh names then Some (Ints ints, plain roots (record view { objects = overwrite view.objects writes })) else None)
TellsOfRun names roots view (Done (Fault f) reads writes fresh) e = e ≡ (if length names == 0 then Some (Fault f, plain roots view) else None)
TellsOfRun names roots view (Need x owners) e = e ≡ None
TellsOfRun names roots view (NeedName repo) e = e ≡ None

-- The other view has what this one has at hand that isn't due, and may have more; names and epoch are the same.
pub record HasAsMuch (schema : Schema) (view other : View) : Type 0 where
  pub objects : (x : Oref) → is_some (current schema (get view.objects x)) ≡ true → current schema (get other.objects x) ≡ current schema (get view.objects x)
  pub names : supply other.names ≡ supply view.names
  pub epoch : other.epoch ≡ view.epoch

-- the evaluation needs an object, which isn't at hand or is due
pub record IsNeeded (tx : List Stmt) (schema : Schema) (view : View) (x : Oref) (owners : List Oref) : Type 0 where
  pub answer : evaluation tx schema view ≡ Need x owners
  pub none : current schema (get view.objects x) ≡ None

-- there are no stand-in names behind those that were granted, and were none at the last commit
pub record HasNoStandIns (n : Names) : Type 0 where
  pub now : n.stand_in ≡ None
  pub kept : n.kept_stand_in ≡ None
