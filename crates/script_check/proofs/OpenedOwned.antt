-- That the store with which a fresh store opens is well owned as a stored map, and each object of its class.
use Rattle.std.proofs.Common.{◌≡◌, true, false, List, [], ◌∷◌, Option, Some, None, refl, ap, sym, ◌∙◌, subst, ℕ, zero, suc, length, map, option_map, arith, ◌≤◌}
use Rattle.std.proofs.lemmas.Map.Made.{lookup-map_values}
use Rattle.std.proofs.lemmas.Option.{same_Some}
use Rattle.std.specs.BTreeMap.{is_at}
use Rattle.std.specs.List.{AllByRecursion}
use Rattle.std.specs.Option.{IsSomeAnd}
use Rattle.std.specs.Prelude.{slice_get, unwrap_or}
use Rattle.thor_value.specs.FiniteMap.{empty, get}
use Rattle.thor_value.specs.Names.{oref_cmp}
use Rattle.thor_value.specs.declared.names.Oref.{Oref}
use Rattle.thor_value.specs.declared.values.Obj.{Obj}
use Rattle.thor_value.specs.declared.values.Value.{Value}
use Rattle.thor_value.specs.declared.values.Value.TheVariants as value
use Rattle.class_defs.proofs.KeptRules.{nothing, root_free}
use Rattle.class_defs.specs.Ownership.{IsPart, Owns}
use Rattle.class_defs.specs.Rules.{is_part, is_root_class}
use Rattle.class_defs.specs.SchemaRules.{root_rules, schema_rules}
use Rattle.class_defs.specs.Steps.{beginning, fitted}
use Rattle.class_defs.specs.Stored.{Stored, all_written, bare, in_epoch}
use Rattle.class_defs.specs.Types.{class_named, fields_of, type_named}
use Rattle.class_defs.specs.WellOwned.{AreOfTheirClasses, IsOfItsClass, IsWellOwned}
use Rattle.class_defs.specs.declared.classes.Class.{Class}
use Rattle.class_defs.specs.declared.classes.Field.{Field}
use Rattle.class_defs.specs.declared.declarations.Declarations.{Declarations}
use Rattle.class_defs.specs.declared.store.Object.{Object}
use Rattle.class_defs.specs.declared.store.Root.{Root}
use Rattle.class_defs.specs.declared.store.RootDeclaration.{RootDeclaration}
use Rattle.class_defs.specs.declared.store.Schema.{Schema}
use Rattle.class_defs.specs.declared.store.Schemas.{Schemas}
use Rattle.class_defs.specs.declared.types.ExprType.{ExprType}
use Rattle.class_defs.specs.declared.types.ExprType.TheVariants as type
use Rattle.law_type_soundness.specs.Fits.{FieldsFit, ObjectFits, ValueFits}
use Rattle.script_check.proofs.OpenedFits.{IsThere, all_filled, all_owed, objects, root_classed, roots_rules, roots_there}
use Rattle.script_check.specs.Opened.{class_of, opened, root_object, root_of, roots_of, schema_of}

-- ---- fields as they begin refer to nothing

no_ref : (t : ExprType) (z : Oref) → beginning t ≡ value.Ref z → ⊥
no_ref type.Int z h = cc
no_ref type.Text z h = cc
no_ref type.Null z h = cc
no_ref (type.Class c) z h = cc
no_ref type.Untold z h = cc

-- no field names an object
abbrev NamesNone : Object → Type 0
NamesNone o = (i : ℕ) (z : Oref) → slice_get o.fields i ≡ Some (value.Ref z) → ⊥

begun_apart : (classes : List Class) (gs : List Field) (i : ℕ) (z : Oref)
    → slice_get (map (λ f. beginning (type_named classes f.type_name)) gs) i ≡ Some (value.Ref z) → ⊥
begun_apart classes [] i z h = cc
begun_apart classes (g ∷ gs) zero z h = no_ref (type_named classes g.type_name) z (same_Some _ _ h)
begun_apart classes (g ∷ gs) (suc i) z h = begun_apart classes gs i z h

roots_apart : (s : Schema) (rs : List RootDeclaration) → AllByRecursion (λ (kv : Oref × Object). NamesNone kv.1) (map (root_object s) rs)
roots_apart s [] = tt
roots_apart s (r ∷ rs) = (begun_apart s.classes (fields_of s.classes (class_of s r)), roots_apart s rs)

-- ---- what fits is of its class

of_kind : (f : Oref → Option Object) (t : ExprType) (w : Value) → ValueFits f t w → fitted t w ≡ w
of_kind f type.Int (value.Int n) h = refl
of_kind f type.Text (value.Int n) h = absurd h
of_kind f type.Text (value.Text n) h = refl
of_kind f type.Int (value.Text n) h = absurd h
of_kind f type.Int (value.Ref x) h = absurd h
of_kind f type.Text (value.Ref x) h = absurd h
of_kind f type.Int value.Null h = absurd h
of_kind f type.Text value.Null h = absurd h
of_kind f type.Null (value.Int n) h = absurd h
of_kind f type.Null (value.Text n) h = absurd h
of_kind f type.Null (value.Ref x) h = absurd h
of_kind f type.Null value.Null h = refl
of_kind f (type.Class c) (value.Int n) h = absurd h
of_kind f (type.Class c) (value.Text n) h = absurd h
of_kind f (type.Class c) (value.Ref x) h = refl
of_kind f (type.Class c) value.Null h = refl
of_kind f type.Untold w h = absurd h

as_many : (f : Oref → Option Object) (classes : List Class) (gs : List Field) (vs : List Value) → FieldsFit f classes gs vs → length vs ≡ length gs
as_many f classes [] [] h = refl
as_many f classes [] (v ∷ vs) h = absurd h
as_many f classes (g ∷ gs) [] h = absurd h
as_many f classes (g ∷ gs) (v ∷ vs) h = ap suc (as_many f classes gs vs h.1)

kinds : (f : Oref → Option Object) (classes : List Class) (gs : List Field) (vs : List Value) → FieldsFit f classes gs vs
    → (i : ℕ) (t : ExprType) (w : Value) → option_map (λ g. type_named classes g.type_name) (slice_get gs i) ≡ Some t → slice_get vs i ≡ Some w → fitted t w ≡ w
kinds f classes [] vs h i t w at is = cc
kinds f classes (g ∷ gs) [] h i t w at is = absurd h
kinds f classes (g ∷ gs) (v ∷ vs) h zero t w at is =
    subst (λ u. fitted u w ≡ w) (same_Some _ _ at) (subst (λ x. fitted (type_named classes g.type_name) x ≡ x) (same_Some v w is) (of_kind f (type_named classes g.type_name) v h.0))
kinds f classes (g ∷ gs) (v ∷ vs) h (suc i) t w at is = kinds f classes gs vs h.1 i t w at is

of_its_class : (f : Oref → Option Object) (classes : List Class) (o : Object) → ObjectFits f classes o → IsOfItsClass classes o
of_its_class f classes o h = record {
  class = h.class;
  count = as_many f classes (fields_of classes o.class) o.fields h.fields;
  kinds = λ i t w at is. kinds f classes (fields_of classes o.class) o.fields h.fields i t w at is;
}

-- ---- the map

module _ (setup : Declarations) (repos : ℕ) (sound : schema_rules (schema_of setup) repos ≡ []) (s : Schemas) (first : s.first ≡ schema_of setup) where
  abbrev L : Stored
  L = all_written (record { objects = objects setup repos sound; epoch = 0; roots = roots_of (schema_of setup) })

  mapped : (x : Oref) → get L.objects x ≡ option_map (in_epoch 0) (get (objects setup repos sound) x)
  mapped x = lookup-map_values (in_epoch 0) (is_at (oref_cmp x)) (objects setup repos sound).pairs

  stored : (x : Oref) (o : Obj) → get L.objects x ≡ Some o → (v : Object) × (get (objects setup repos sound) x ≡ Some v) × (o ≡ in_epoch 0 v)
  stored x o is = by (get (objects setup repos sound) x) (sym (mapped x) ∙ is)
    where
      by : (k : Option Object) → option_map (in_epoch 0) k ≡ Some o → (v : Object) × (k ≡ Some v) × (o ≡ in_epoch 0 v)
      by None h = cc
      by (Some v) h = (v, refl, sym (same_Some _ _ h))

  names_none : (x : Oref) (v : Object) → get (objects setup repos sound) x ≡ Some v → NamesNone v
  names_none =
      all_filled (λ x v. NamesNone v) (map (root_object (schema_of setup)) (schema_of setup).roots)
      (roots_apart (schema_of setup) (schema_of setup).roots) empty (λ x v is. cc)

  -- no object names another one
  apart : {A : Type 0} (x : Oref) (o : Obj) (i : ℕ) (z : Oref) → get L.objects x ≡ Some o → slice_get o.fields i ≡ Some (value.Ref z) → A
  apart x o i z is h = let k = stored x o is in absurd (names_none x k.0 k.1 i z (subst (λ (p : Obj). slice_get p.fields i ≡ Some (value.Ref z)) k.2 h))

  owns_none : {A : Type 0} (a : Oref) (i : ℕ) (z : Oref) → Owns s L.objects a i z → A
  owns_none a i z h = apart a h.reference.object i z h.reference.stored h.reference.refers.names

  -- a root names a free object of its class
  free : (r : RootDeclaration) (c : ℕ) → is_root_class (schema_of setup).classes r.class ≡ [] → class_named (schema_of setup).classes r.class.text ≡ Some c → ¬ IsPart s c
  free r c h at part =
      let k = root_free (schema_of setup).classes r.class h in
      let same : k.0 ≡ c = one_number (sym k.1 ∙ at) in
      let no : is_part (schema_of setup).classes (type.Class c) ≡ false = subst (λ d. is_part (schema_of setup).classes (type.Class d) ≡ false) same k.2 in
      let yes : is_part (schema_of setup).classes (type.Class c) ≡ true = subst (λ (k : Schema). is_part k.classes (type.Class c) ≡ true) first part in
      let wrong : true ≡ false = sym yes ∙ no in
      cc
    where
      one_number : {a b : ℕ} → Some a ≡ Some b → a ≡ b
      one_number e = cc

  IsRootOfMap : Root → Type 0
  IsRootOfMap r = (¬ IsPart s r.class) × IsSomeAnd (get L.objects r.oref) (λ o. o.class ≡ r.class)

  root_at : (r : RootDeclaration) → root_rules (schema_of setup).classes repos r ≡ [] → IsThere (schema_of setup) (objects setup repos sound) r → IsRootOfMap (root_of (schema_of setup) r)
  unfolding IsRootOfMap
  root_at r h at =
      let c = root_classed (schema_of setup) repos r h in
      let same : c.class ≡ class_of (schema_of setup) r = sym (ap (λ k. unwrap_or k 0) c.named) in (
        subst (λ k. ¬ IsPart s k) same (free r c.class (nothing (is_root_class (schema_of setup).classes r.class) _ h).0 c.named),
        subst (λ k. IsSomeAnd k (λ o. o.class ≡ class_of (schema_of setup) r)) (sym (mapped r.oref ∙ ap (option_map (in_epoch 0)) at)) refl,
      )

  roots_at : (rs : List RootDeclaration) → AllByRecursion (λ r. root_rules (schema_of setup).classes repos r ≡ []) rs → AllByRecursion (IsThere (schema_of setup) (objects setup repos sound)) rs
      → (i : ℕ) (r : Root) → slice_get (map (root_of (schema_of setup)) rs) i ≡ Some r → IsRootOfMap r
  roots_at [] h at i r is = cc
  roots_at (d ∷ ds) h at zero r is = subst IsRootOfMap (same_Some _ _ is) (root_at d h.0 at.0)
  roots_at (d ∷ ds) h at (suc i) r is = roots_at ds h.1 at.1 i r is

  owned : IsWellOwned s L
  unfolding IsRootOfMap
  owned = record {
    versions = λ x o is. let k = stored x o is in subst (λ (p : Obj). p.ver ≤ 0) (sym k.2) (omega arith);
    only = λ x o i z is h. apart x o i z is h;
    declared = λ a i d z h. apart a h.object i z h.stored h.refers.names;
    once = λ a b i j z h k. owns_none a i z h;
    near = λ a i z h. owns_none a i z h;
    roots = λ i r is. roots_at (schema_of setup).roots (roots_rules (schema_of setup) repos sound) (roots_there (schema_of setup) [] setup.roots empty) i r is;
    ends = λ z. (1, λ a h. owns_none a h.1.0 h.0 h.1.1.0);
    levels = λ n a z o p h is it. owns_none a h.1.0 h.0 h.1.1.0;
  }

  of_classes : AreOfTheirClasses s L
  of_classes x o is =
      let k = stored x o is in
      subst (λ (p : Obj). IsOfItsClass (Rattle.class_defs.specs.Epochs.classes_of s p.ver) (bare p)) (sym k.2)
      (subst (λ (g : Schema). IsOfItsClass g.classes k.0) (sym first) (of_its_class (get (objects setup repos sound)) (schema_of setup).classes k.0 (all_owed setup repos sound x k.0 k.1)))

  pub opened_owned : IsWellOwned s (all_written (opened (schema_of setup))) × AreOfTheirClasses s (all_written (opened (schema_of setup)))
  unfolding opened
  opened_owned = (owned, of_classes)
