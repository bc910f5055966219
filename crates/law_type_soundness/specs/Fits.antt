-- What it is that values, objects, stores and the states of a run fit the classes of a schema (this project's).
use Rattle.std.specs.Prelude.{◌≡◌, ◌≤◌, ℕ, true, List, [], ◌∷◌, length, Option, Some, None, Result, Ok, Err, is_some, option_map, slice_get}
use Rattle.std.specs.List.{AllByRecursion, IsDistinct}
use Rattle.thor_value.specs.FiniteMap.{get}
use Rattle.thor_value.specs.Names.{same_oref}
use Rattle.thor_value.specs.declared.names.Oref.{Oref}
use Rattle.thor_value.specs.declared.values.Value.{Value}
use Rattle.thor_value.specs.declared.values.Value.TheVariants as value
use Rattle.class_defs.specs.Objects.{seen, stand_in_name}
use Rattle.class_defs.specs.Rules.{Sight}
use Rattle.class_defs.specs.Steps.{World}
use Rattle.class_defs.specs.Types.{IsDeclared, fields_of, type_named}
use Rattle.class_defs.specs.declared.classes.Class.{Class}
use Rattle.class_defs.specs.declared.classes.Field.{Field}
use Rattle.class_defs.specs.declared.machine.Flow.{Flow}
use Rattle.class_defs.specs.declared.machine.Flow.TheVariants.{Next, Returned}
use Rattle.class_defs.specs.declared.machine.Local.{Local}
use Rattle.class_defs.specs.declared.machine.Machine.{Machine}
use Rattle.class_defs.specs.declared.machine.NameSupply.{NameSupply}
use Rattle.class_defs.specs.declared.machine.Receiver.{Receiver}
use Rattle.class_defs.specs.declared.machine.Stop.{Stop}
use Rattle.class_defs.specs.declared.machine.Stop.TheVariants as stop
use Rattle.class_defs.specs.declared.rules.NamedType.{NamedType}
use Rattle.class_defs.specs.declared.store.Object.{Object}
use Rattle.class_defs.specs.declared.store.Plain.{Plain}
use Rattle.class_defs.specs.declared.store.RootDeclaration.{RootDeclaration}
use Rattle.class_defs.specs.declared.store.Schema.{Schema}
use Rattle.class_defs.specs.declared.types.ExprType.{ExprType}
use Rattle.class_defs.specs.declared.types.ExprType.TheVariants as type
use Rattle.class_defs.specs.declared.expressions.TypeName.TheVariants as type_name

-- ---- values and objects

-- the class of an object that is there
abbrev pub class_of : (Oref → Option Object) → Oref → Option ℕ
class_of objects x = option_map (λ o. o.class) (objects x)

-- A value of a type: a number; a text; or null, or a reference to an object of just this class. Of a type that can't be
-- told there is none.
abbrev pub ValueFits : (Oref → Option Object) → ExprType → Value → Type 0
ValueFits objects type.Int (value.Int n) = Unit {0}
ValueFits objects type.Int (value.Ref x) = ⊥
ValueFits objects type.Int value.Null = ⊥
ValueFits objects type.Int (value.Text w) = ⊥
ValueFits objects type.Text (value.Int n) = ⊥
ValueFits objects type.Text (value.Ref x) = ⊥
ValueFits objects type.Text value.Null = ⊥
ValueFits objects type.Text (value.Text w) = Unit {0}
ValueFits objects type.Null (value.Int n) = ⊥
ValueFits objects type.Null (value.Ref x) = ⊥
ValueFits objects type.Null value.Null = Unit {0}
ValueFits objects type.Null (value.Text w) = ⊥
ValueFits objects (type.Class c) (value.Int n) = ⊥
ValueFits objects (type.Class c) (value.Ref x) = class_of objects x ≡ Some c
ValueFits objects (type.Class c) value.Null = Unit {0}
ValueFits objects (type.Class c) (value.Text w) = ⊥
ValueFits objects type.Untold v = ⊥

-- as many values as fields, each of the field's type
abbrev pub FieldsFit : (Oref → Option Object) → List Class → List Field → List Value → Type 0
FieldsFit objects classes [] [] = Unit {0}
FieldsFit objects classes [] (v ∷ vs) = ⊥
FieldsFit objects classes (f ∷ fs) [] = ⊥
FieldsFit objects classes (f ∷ fs) (v ∷ vs) = ValueFits objects (type_named classes f.type_name) v × FieldsFit objects classes fs vs

-- an object of a class that is there, with just its fields
pub record ObjectFits (objects : Oref → Option Object) (classes : List Class) (o : Object) : Type 0 where
  pub class : is_some (slice_get classes o.class) ≡ true
  pub fields : FieldsFit objects classes (fields_of classes o.class) o.fields

-- the root's object is there, and of its class
abbrev pub RootFits : (Oref → Option Object) → List Class → RootDeclaration → Type 0
RootFits objects classes r = ValueFits objects (type_named classes (type_name.Class r.class)) (value.Ref r.oref)

-- objects that refer to one another, and to which the roots refer, as the classes say
pub record ObjectsFit (schema : Schema) (objects : Oref → Option Object) : Type 0 where
  pub each : (x : Oref) → (o : Object) → objects x ≡ Some o → ObjectFits objects schema.classes o
  pub roots : AllByRecursion (RootFits objects schema.classes) schema.roots

-- a store that fits its schema
abbrev pub StoreFits : Schema → Plain → Type 0
StoreFits schema store = ObjectsFit schema (get store.objects)

-- ---- names for new objects

-- the name of no object, and no stand-in name
abbrev pub IsNew : (Oref → Option Object) → Oref → Type 0
IsNew objects x = (objects x ≡ None) × (x.repo ≡ 255 → ⊥)

-- the stand-in names from this one on are those of no object, and no more of them were taken than objects were made
abbrev pub StandInsFit : (Oref → Option Object) → ℕ → Option ℕ → Type 0
StandInsFit objects made None = Unit {0}
StandInsFit objects made (Some k) = (k ≤ made) × ((j : ℕ) → k ≤ j → objects (stand_in_name j) ≡ None)

-- the names that a supply can still give are different, and those of no object
pub record NamesFit (objects : Oref → Option Object) (made : ℕ) (names : NameSupply) : Type 0 where
  pub waiting : AllByRecursion (IsNew objects) names.waiting
  pub distinct : IsDistinct same_oref names.waiting
  pub stand_ins : StandInsFit objects made names.stand_in

-- names for a transaction on a store: different, and of no object there; nor has it an object with a stand-in name
pub record Fresh (store : Plain) (names : List Oref) : Type 0 where
  pub waiting : AllByRecursion (IsNew (get store.objects)) names
  pub distinct : IsDistinct same_oref names
  pub stand_ins : (k : ℕ) → get store.objects (stand_in_name k) ≡ None

-- ---- states of a run

-- a local as the check saw it, with a value of its type
pub record LocalFits (objects : Oref → Option Object) (n : NamedType) (l : Local) : Type 0 where
  pub name : l.name ≡ n.name
  pub kind : l.kind ≡ n.kind
  pub declared : IsDeclared n.kind
  pub value : ValueFits objects n.kind l.value

-- just the locals that are in sight
abbrev pub LocalsFit : (Oref → Option Object) → List NamedType → List Local → Type 0
LocalsFit objects [] [] = Unit {0}
LocalsFit objects [] (l ∷ ls) = ⊥
LocalsFit objects (n ∷ ns) [] = ⊥
LocalsFit objects (n ∷ ns) (l ∷ ls) = LocalFits objects n l × LocalsFit objects ns ls

-- `this` is an object of the class that the check saw
abbrev pub ThisFits : (Oref → Option Object) → Option ℕ → Option Receiver → Type 0
ThisFits objects None None = Unit {0}
ThisFits objects None (Some r) = ⊥
ThisFits objects (Some c) None = ⊥
ThisFits objects (Some c) (Some r) = (r.class ≡ c) × (class_of objects r.oref ≡ Some c)

-- The state of a run fits what is in sight at a place of the text: the objects as the transaction sees them fit,
-- and `this`, the locals and the names for new objects do.
pub record MachineFits (w : World) (s : Sight) (m : Machine) : Type 0 where
  pub objects : ObjectsFit w.schema (seen w m)
  pub this : ThisFits (seen w m) s.this m.this
  pub locals : LocalsFit (seen w m) s.locals m.locals
  pub names : NamesFit (seen w m) (length m.created) m.names

-- a result is of the declared type of the body's method
abbrev pub FlowFits : (Oref → Option Object) → ExprType → Flow → Type 0
FlowFits objects result Next = Unit {0}
FlowFits objects result (Returned v) = IsDeclared result → ValueFits objects result v

-- a run ended by itself or in a fault: no object was missing, nor a name for a new one
abbrev pub IsAnswered : Result Flow Stop → Type 0
IsAnswered (Ok flow) = Unit {0}
IsAnswered (Err (stop.Fault f)) = Unit {0}
IsAnswered (Err (stop.Need x owners)) = ⊥
IsAnswered (Err (stop.NeedName repo)) = ⊥
