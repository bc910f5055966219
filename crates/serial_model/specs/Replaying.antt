-- What the code that runs entries says of a run on a whole store.
use Rattle.std.specs.Prelude.{◌≡◌, List, Option, Some, None, option_map, if◌then◌else◌, length, ◌==◌}
use Rattle.thor_value.specs.declared.names.Oref.{Oref}
use Rattle.thor_value.specs.FiniteMap.{overwrite}
use Rattle.thor_value.specs.declared.values.Answer.{Answer}
use Rattle.thor_value.specs.declared.values.Answer.TheVariants.{Ints, Fault}
use Rattle.thor_value.specs.declared.values.Obj.{Obj}
use Rattle.class_defs.specs.Run as run
use Rattle.class_defs.specs.Run.{takes}
use Rattle.class_defs.specs.declared.statements.Stmt.{Stmt}
use Rattle.class_defs.specs.declared.store.Plain.{Plain}
use Rattle.class_defs.specs.declared.store.Root.{Root}
use Rattle.class_defs.specs.declared.store.Schema.{Schema}
use Rattle.method_eval.specs.declared.view.View.{View}
use Rattle.serial_model.specs.Whole.{plain}

-- the answer of a run and the store behind it
abbrev pub effect : run.Ran → Answer × Plain
effect r = (r.answer, r.store)

-- the effect of a transaction whose new objects take the given names, where its run is defined
abbrev pub effect_of : Schema → List Stmt → Plain → List Oref → Option (Answer × Plain)
effect_of schema tx store names = option_map effect (run.run schema tx store names)

-- The run of the transaction on the store of the old view, with these new names, gives the answer and the store of the
-- new view; where there is no answer it is undefined, and the objects are as they were.
abbrev pub RanOn : Schema → List Stmt → List Oref → List Root → View → Option Answer → View → Type 0
RanOn schema tx names roots old None new = (effect_of schema tx (plain roots old) names ≡ None) × (plain roots new ≡ plain roots old)
RanOn schema tx names roots old (Some answer) new = effect_of schema tx (plain roots old) names ≡ Some (answer, plain roots new)

-- A run that ended with printed values stands where its new objects took just the names; one that ended with a fault,
-- where there are no names.
abbrev pub Settles : List Oref → List Oref → List (Oref × Obj) → View → Answer → Option Answer → View → Type 0
Settles names fresh writes old (Ints ints) taken new =
    (taken ≡ (if takes fresh names then Some (Ints ints) else None)) × (new ≡ (if takes fresh names then record old { objects = overwrite old.objects writes } else old))
Settles names fresh writes old (Fault fault) taken new = (taken ≡ (if length names == 0 then Some (Fault fault) else None)) × (new ≡ old)
