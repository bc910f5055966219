-- That values, fields and locals that fit do so among objects that have kept their classes, and among objects of which
-- one was put anew.
use Rattle.std.proofs.Common.{◌≡◌, Bool, true, false, cond, List, [], ◌∷◌, Option, Some, None, refl, ap, subst, ◌∙◌, ℕ, zero, suc}
use Rattle.std.proofs.Math.Path.{fun_ext}
use Rattle.std.specs.List.{AllByRecursion}
use Rattle.std.specs.Prelude.{option_map, slice_get, slice_set}
use Rattle.thor_value.proofs.FiniteMap.{get-insert}
use Rattle.thor_value.proofs.NameOrders.{oref_total}
use Rattle.thor_value.specs.FiniteMap.{Map, get, insert}
use Rattle.thor_value.specs.Names.{oref_cmp, same_oref}
use Rattle.thor_value.specs.declared.names.Oref.{Oref}
use Rattle.thor_value.specs.declared.values.Value.{Value}
use Rattle.thor_value.specs.declared.values.Value.TheVariants as value
use Rattle.law_type_soundness.specs.Fits.{class_of, ValueFits, FieldsFit, ObjectFits, RootFits, ObjectsFit, LocalFits, LocalsFit, ThisFits}
use Rattle.class_defs.proofs.SameNames.{one_name}
use Rattle.class_defs.specs.Objects.{first_of}
use Rattle.class_defs.specs.Types.{type_named}
use Rattle.class_defs.specs.declared.classes.Class.{Class}
use Rattle.class_defs.specs.declared.classes.Field.{Field}
use Rattle.class_defs.specs.declared.machine.Local.{Local}
use Rattle.class_defs.specs.declared.machine.Receiver.{Receiver}
use Rattle.class_defs.specs.declared.rules.NamedType.{NamedType}
use Rattle.class_defs.specs.declared.store.Object.{Object}
use Rattle.class_defs.specs.declared.store.RootDeclaration.{RootDeclaration}
use Rattle.class_defs.specs.declared.store.Schema.{Schema}
use Rattle.class_defs.specs.declared.types.ExprType.{ExprType}
use Rattle.class_defs.specs.declared.types.ExprType.TheVariants as type

-- ---- the first object's class stays

-- an object that is there in the first is there in the second, with the same class
abbrev pub Keeps : (Oref → Option Object) → (Oref → Option Object) → Type 0
Keeps f g = (x : Oref) (c : ℕ) → class_of f x ≡ Some c → class_of g x ≡ Some c

module _ (f g : Oref → Option Object) (k : Keeps f g) where
  pub value_keeps : (t : ExprType) (v : Value) → ValueFits f t v → ValueFits g t v
  value_keeps type.Int (value.Int n) h = tt
  value_keeps type.Text (value.Int n) h = absurd h
  value_keeps type.Text (value.Text n) h = tt
  value_keeps type.Int (value.Text n) h = absurd h
  value_keeps type.Int (value.Ref x) h = absurd h
  value_keeps type.Text (value.Ref x) h = absurd h
  value_keeps type.Int value.Null h = absurd h
  value_keeps type.Text value.Null h = absurd h
  value_keeps type.Null (value.Int n) h = absurd h
  value_keeps type.Null (value.Text n) h = absurd h
  value_keeps type.Null (value.Ref x) h = absurd h
  value_keeps type.Null value.Null h = tt
  value_keeps (type.Class c) (value.Int n) h = absurd h
  value_keeps (type.Class c) (value.Text n) h = absurd h
  value_keeps (type.Class c) (value.Ref x) h = k x c h
  value_keeps (type.Class c) value.Null h = tt
  value_keeps type.Untold v h = absurd h

  pub fields_keep : (classes : List Class) (fs : List Field) (vs : List Value) → FieldsFit f classes fs vs → FieldsFit g classes fs vs
  fields_keep classes [] [] h = tt
  fields_keep classes [] (v ∷ vs) h = absurd h
  fields_keep classes (d ∷ ds) [] h = absurd h
  fields_keep classes (d ∷ ds) (v ∷ vs) h = (value_keeps _ v h.0, fields_keep classes ds vs h.1)

  pub object_keeps : (classes : List Class) (o : Object) → ObjectFits f classes o → ObjectFits g classes o
  object_keeps classes o h = record { class = h.class; fields = fields_keep classes _ o.fields h.fields }

  pub roots_keep : (classes : List Class) (rs : List RootDeclaration) → AllByRecursion (RootFits f classes) rs
      → AllByRecursion (RootFits g classes) rs
  roots_keep classes [] h = tt
  roots_keep classes (r ∷ rs) h = (value_keeps _ (value.Ref r.oref) h.0, roots_keep classes rs h.1)

  pub this_keeps : (t : Option ℕ) (r : Option Receiver) → ThisFits f t r → ThisFits g t r
  this_keeps None None h = tt
  this_keeps None (Some r) h = absurd h
  this_keeps (Some c) None h = absurd h
  this_keeps (Some c) (Some r) h = (h.0, k r.oref c h.1)

  local_keeps : (n : NamedType) (l : Local) → LocalFits f n l → LocalFits g n l
  local_keeps n l h = record { name = h.name; kind = h.kind; declared = h.declared; value = value_keeps n.kind l.value h.value }

  pub locals_keep : (ns : List NamedType) (ls : List Local) → LocalsFit f ns ls → LocalsFit g ns ls
  locals_keep [] [] h = tt
  locals_keep [] (l ∷ ls) h = absurd h
  locals_keep (n ∷ ns) [] h = absurd h
  locals_keep (n ∷ ns) (l ∷ ls) h = (local_keeps n l h.0, locals_keep ns ls h.1)

-- ---- an object is put

abbrev pub put : (Oref → Option Object) → Oref → Object → Oref → Option Object
put f x o = λ y. cond (same_oref y x) (Some o) (f y)

class_put : (f : Oref → Option Object) (x y : Oref) (o : Object) (b : Bool) → same_oref y x ≡ b → ((c : ℕ) → class_of f x ≡ Some c → o.class ≡ c)
    → (c : ℕ) → class_of f y ≡ Some c → option_map (λ (p : Object). p.class) (cond b (Some o) (f y)) ≡ Some c
class_put f x y o true is h c at = ap Some (h c (subst (λ z. class_of f z ≡ Some c) (one_name y x true is refl) at))
class_put f x y o false is h c at = at

pub keeps_put : (f : Oref → Option Object) (x : Oref) (o : Object) → ((c : ℕ) → class_of f x ≡ Some c → o.class ≡ c) → Keeps f (put f x o)
keeps_put f x o h y c at = class_put f x y o _ refl h c at

put_each : (f : Oref → Option Object) (x y : Oref) (o p : Object) (b : Bool) (P : Object → Type 0) → P o → (f y ≡ Some p → P p)
    → cond b (Some o) (f y) ≡ Some p → P p
put_each f x y o p true P h k is = subst P (cc) h
put_each f x y o p false P h k is = k is

pub objects_put : (schema : Schema) (f : Oref → Option Object) (x : Oref) (o : Object) → ((c : ℕ) → class_of f x ≡ Some c → o.class ≡ c)
    → ObjectsFit schema f → ObjectFits (put f x o) schema.classes o → ObjectsFit schema (put f x o)
objects_put schema f x o h s fit = record {
  each = λ y p is. put_each f x y o p (same_oref y x) (ObjectFits (put f x o) schema.classes) fit
      (λ at. object_keeps f (put f x o) (keeps_put f x o h) schema.classes p (s.each y p at)) is;
  roots = roots_keep f (put f x o) (keeps_put f x o h) schema.classes schema.roots s.roots;
}

-- an object that is none in a state of which another was put
none_at : (f : Oref → Option Object) (x y : Oref) (o : Object) (b : Bool) → same_oref y x ≡ b → (f y ≡ None) → (y ≡ x → ⊥)
    → cond b (Some o) (f y) ≡ None
none_at f x y o true is h apart = absurd (apart (one_name y x true is refl))
none_at f x y o false is h apart = h

pub none_put : (f : Oref → Option Object) (x y : Oref) (o : Object) → f y ≡ None → (y ≡ x → ⊥) → put f x o y ≡ None
none_put f x y o h apart = none_at f x y o _ refl h apart

-- what was written stands before what is at hand
first_put : (b : Bool) (v : Object) (o p : Option Object) → first_of (cond b (Some v) o) p ≡ cond b (Some v) (first_of o p)
first_put true v o p = refl
first_put false v o p = refl

pub insert_put : (writes : Map oref_cmp Object) (at_hand : Oref → Option Object) (x : Oref) (o : Object)
    → (λ y. first_of (get (insert writes x o) y) (at_hand y)) ≡ put (λ y. first_of (get writes y) (at_hand y)) x o
insert_put writes at_hand x o =
    fun_ext (λ y. ap (λ p. first_of p (at_hand y)) (get-insert oref_total writes x o y) ∙ first_put (same_oref y x) o (get writes y) (at_hand y))

-- ---- one field of an object

-- the fields with another value at a place
pub fields_set : (f : Oref → Option Object) (classes : List Class) (fs : List Field) (vs : List Value) (i : ℕ) (d : Field) (v : Value)
    → FieldsFit f classes fs vs → slice_get fs i ≡ Some d → ValueFits f (type_named classes d.type_name) v → FieldsFit f classes fs (slice_set vs i v)
fields_set f classes [] [] i d v h is fit = cc
fields_set f classes [] (u ∷ us) i d v h is fit = absurd h
fields_set f classes (e ∷ es) [] i d v h is fit = absurd h
fields_set f classes (e ∷ es) (u ∷ us) zero d v h is fit =
    let p : d ≡ e = cc in (subst (λ (k : Field). ValueFits f (type_named classes k.type_name) v) p fit, h.1)
fields_set f classes (e ∷ es) (u ∷ us) (suc i) d v h is fit = (h.0, fields_set f classes es us i d v h.1 is fit)

-- the value at the place of a field
pub field_there : (f : Oref → Option Object) (classes : List Class) (fs : List Field) (vs : List Value) (i : ℕ) (d : Field)
    → FieldsFit f classes fs vs → slice_get fs i ≡ Some d → (v : Value) × ((slice_get vs i ≡ Some v) × ValueFits f (type_named classes d.type_name) v)
field_there f classes [] [] i d h is = cc
field_there f classes [] (u ∷ us) i d h is = absurd h
field_there f classes (e ∷ es) [] i d h is = absurd h
field_there f classes (e ∷ es) (u ∷ us) zero d h is =
    let p : e ≡ d = cc in (u, (refl, subst (λ (k : Field). ValueFits f (type_named classes k.type_name) u) p h.0))
field_there f classes (e ∷ es) (u ∷ us) (suc i) d h is = field_there f classes es us i d h.1 is
