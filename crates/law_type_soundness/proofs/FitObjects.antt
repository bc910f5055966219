-- That checked code reads, writes and creates objects as it is owed, in a state that fits.
use Rattle.std.proofs.Common.{◌≡◌, arith, true, List, [], ◌∷◌, Option, Some, None, refl, subst, ℕ}
use Rattle.std.proofs.lemmas.Bool.Decides.{nat_tests}
use Rattle.std.specs.List.{AllByRecursion, position_or_len}
use Rattle.std.specs.Prelude.{◌==◌, is_some, map, option_map, slice_get}
use Rattle.std.specs.Str.{bytes_eq}
use Rattle.thor_value.specs.declared.names.Oref.{Oref}
use Rattle.thor_value.specs.declared.values.Value.{Value}
use Rattle.thor_value.specs.declared.values.Value.TheVariants as value
use Rattle.class_defs.proofs.KeptRules.{ClassSound, found, place_found, there, type_told}
use Rattle.law_type_soundness.proofs.FitValues.{field_there}
use Rattle.class_defs.specs.Types.{IsDeclared, field_named, field_of, fields_of, type_named}
use Rattle.law_type_soundness.specs.Fits.{class_of, ValueFits, FieldsFit, ObjectFits, ObjectsFit}
use Rattle.class_defs.specs.Rules.{fits, is_type}
use Rattle.class_defs.specs.Kinds.{literal_type, literal_value}
use Rattle.class_defs.specs.Steps.{beginning, fitted}
use Rattle.class_defs.specs.declared.literals.Literal.{Literal}
use Rattle.class_defs.specs.declared.literals.Literal.TheVariants as literal
use Rattle.class_defs.specs.declared.classes.Class.{Class}
use Rattle.class_defs.specs.declared.classes.Field.{Field}
use Rattle.class_defs.specs.declared.store.Object.{Object}
use Rattle.class_defs.specs.declared.store.Schema.{Schema}
use Rattle.class_defs.specs.declared.types.ExprType.{ExprType}
use Rattle.class_defs.specs.declared.types.ExprType.TheVariants as type

-- ---- values of types

pub begins : (f : Oref → Option Object) (t : ExprType) → IsDeclared t → ValueFits f t (beginning t)
begins f type.Int h = tt
begins f type.Text h = tt
begins f type.Null h = absurd h
begins f (type.Class c) h = tt
begins f type.Untold h = absurd h

-- what a literal is, is of its type
pub literal_fits : (f : Oref → Option Object) (l : Literal) → ValueFits f (literal_type l) (literal_value l)
literal_fits f (literal.Int n) = tt
literal_fits f (literal.Text w) = tt

-- a value of the type counts as itself
pub fitted_is : (f : Oref → Option Object) (t : ExprType) (v : Value) → ValueFits f t v → fitted t v ≡ v
fitted_is f type.Int (value.Int n) h = refl
fitted_is f type.Text (value.Int n) h = absurd h
fitted_is f type.Text (value.Text n) h = refl
fitted_is f type.Int (value.Text n) h = absurd h
fitted_is f type.Int (value.Ref x) h = absurd h
fitted_is f type.Text (value.Ref x) h = absurd h
fitted_is f type.Int value.Null h = absurd h
fitted_is f type.Text value.Null h = absurd h
fitted_is f type.Null (value.Int n) h = absurd h
fitted_is f type.Null (value.Text n) h = absurd h
fitted_is f type.Null (value.Ref x) h = absurd h
fitted_is f type.Null value.Null h = refl
fitted_is f (type.Class c) (value.Int n) h = absurd h
fitted_is f (type.Class c) (value.Text n) h = absurd h
fitted_is f (type.Class c) (value.Ref x) h = refl
fitted_is f (type.Class c) value.Null h = refl
fitted_is f type.Untold v h = absurd h

pub null_suits : (f : Oref → Option Object) (c : ℕ) (v : Value) → ValueFits f type.Null v → ValueFits f (type.Class c) v
null_suits f c (value.Int n) h = absurd h
null_suits f c (value.Text n) h = absurd h
null_suits f c (value.Ref x) h = absurd h
null_suits f c value.Null h = tt

pub one_number : (c d : ℕ) → (c == d) ≡ true → d ≡ c
one_number c d h = grind (arith, nat_tests)

-- a value that may stand where a type is declared is of that type
pub value_suits : (f : Oref → Option Object) (kind given : ExprType) (v : Value) → IsDeclared kind → fits kind given ≡ true → ValueFits f given v
    → ValueFits f kind v
value_suits f type.Int type.Int v d h fit = fit
value_suits f type.Int type.Text v d h fit = cc
value_suits f type.Text type.Int v d h fit = cc
value_suits f type.Text type.Text v d h fit = fit
value_suits f type.Int type.Null v d h fit = cc
value_suits f type.Text type.Null v d h fit = cc
value_suits f type.Int (type.Class e) v d h fit = cc
value_suits f type.Text (type.Class e) v d h fit = cc
value_suits f type.Int type.Untold v d h fit = absurd fit
value_suits f type.Text type.Untold v d h fit = absurd fit
value_suits f (type.Class c) type.Int v d h fit = cc
value_suits f (type.Class c) type.Text v d h fit = cc
value_suits f (type.Class c) type.Null v d h fit = null_suits f c v fit
value_suits f (type.Class c) (type.Class e) v d h fit = subst (λ k. ValueFits f (type.Class k) v) (one_number c e h) fit
value_suits f (type.Class c) type.Untold v d h fit = absurd fit
value_suits f type.Null given v d h fit = absurd d
value_suits f type.Untold given v d h fit = absurd d

-- ---- the object of a class

-- an object of a class, that fits
pub record Found (f : Oref → Option Object) (classes : List Class) (x : Oref) (c : ℕ) : Type 0 where
  pub object : Object
  pub at : f x ≡ Some object
  pub class : object.class ≡ c
  pub fits : ObjectFits f classes object

classed : (o : Option Object) (c : ℕ) → option_map (λ (p : Object). p.class) o ≡ Some c → (p : Object) × ((o ≡ Some p) × (p.class ≡ c))
classed (Some p) c h = (p, (refl, cc))
classed None c h = cc

pub find_object : (schema : Schema) (f : Oref → Option Object) (x : Oref) (c : ℕ) → ObjectsFit schema f → class_of f x ≡ Some c
    → Found f schema.classes x c
find_object schema f x c s h = let p = classed (f x) c h in record { object = p.0; at = p.1.0; class = p.1.1; fits = s.each x p.0 p.1.0 }

-- ---- one field

-- a declared field of an object of a class: the object, the field's place, and the value there
pub record FieldFound (f : Oref → Option Object) (classes : List Class) (x : Oref) (c : ℕ) (name : List ℕ) (d : Field) : Type 0 where
  pub of : Found f classes x c
  pub place : ℕ
  pub named : field_named classes c name ≡ Some place
  pub field : slice_get (fields_of classes c) place ≡ Some d
  pub value : Value
  pub stands : slice_get of.object.fields place ≡ Some value
  pub fits : ValueFits f (type_named classes d.type_name) value

pub find_field : (schema : Schema) (f : Oref → Option Object) (x : Oref) (c : ℕ) (name : List ℕ) (d : Field) → ObjectsFit schema f
    → class_of f x ≡ Some c → field_of schema.classes c name ≡ Some d
    → FieldFound f schema.classes x c name d
find_field schema f x c name d s h is =
    let of = find_object schema f x c s h in
    let test = λ (g : Field). bytes_eq g.name.text name in
    let p = place_found test (fields_of schema.classes c) d is in
    let all : FieldsFit f schema.classes (fields_of schema.classes c) of.object.fields =
    subst (λ k. FieldsFit f schema.classes (fields_of schema.classes k) of.object.fields) of.class of.fits.fields in
    let v = field_there f schema.classes (fields_of schema.classes c) of.object.fields
    (position_or_len test (fields_of schema.classes c)) d all p.1 in
    record { of = of; place = position_or_len test (fields_of schema.classes c); named = p.0; field = p.1; value = v.0; stands = v.1.0; fits = v.1.1 }

-- the class of an object that fits has its declaration
pub class_there : (schema : Schema) (f : Oref → Option Object) (x : Oref) (c : ℕ) → Found f schema.classes x c
    → (d : Class) × (slice_get schema.classes c ≡ Some d)
class_there schema f x c of = there (slice_get schema.classes c) (subst (λ k. is_some (slice_get schema.classes k) ≡ true) of.class of.fits.class)

module _ (schema : Schema) (repos : ℕ) (sound : (c : ℕ) (d : Class) → slice_get schema.classes c ≡ Some d → ClassSound schema repos c d) where
  -- the types of a class's fields are declared
  pub fields_told : (c : ℕ) (d : Class) → slice_get schema.classes c ≡ Some d
      → AllByRecursion (λ (g : Field). is_type schema.classes g.type_name ≡ []) (fields_of schema.classes c)
  fields_told c d is = rw is (sound c d is).fields

  pub field_told : (c : ℕ) (e : Class) (name : List ℕ) (d : Field) → slice_get schema.classes c ≡ Some e → field_of schema.classes c name ≡ Some d
      → IsDeclared (type_named schema.classes d.type_name)
  field_told c e name d is of =
      type_told schema.classes d.type_name (found (λ (g : Field). is_type schema.classes g.type_name ≡ [])
      (λ (g : Field). bytes_eq g.name.text name) (fields_of schema.classes c) d (fields_told c e is) of)

  pub begin_fields : (f : Oref → Option Object) (gs : List Field) → AllByRecursion (λ (g : Field). is_type schema.classes g.type_name ≡ []) gs
      → FieldsFit f schema.classes gs (map (λ g. beginning (type_named schema.classes g.type_name)) gs)
  begin_fields f [] h = tt
  begin_fields f (g ∷ gs) h = (begins f _ (type_told schema.classes g.type_name h.0), begin_fields f gs h.1)
