-- What one upgrade does to the references of an object: those behind it are references of the object before, each
-- declared to be of the same class; and no part is handed to two fields.
use Rattle.std.proofs.Common.{◌≡◌, List, [], ◌∷◌, ℕ, suc, Option, Some, None, option_map, slice_get, map, refl, ap, sym, ◌∙◌, subst}
use Rattle.std.proofs.lemmas.Option.{slice_get-map, same_Some}
use Rattle.thor_value.specs.declared.names.Oref.{Oref}
use Rattle.thor_value.specs.declared.values.Value.{Value}
use Rattle.thor_value.specs.declared.values.Value.TheVariants as value
use Rattle.class_defs.specs.Epochs.{classes_of, next_of}
use Rattle.class_defs.specs.KeptOwnership.{IsHanded, KeepsClasses, KeepsOwnership, handed, handed_path, handed_step}
use Rattle.class_defs.specs.Objects.{field_at, fitted_or_beginning}
use Rattle.class_defs.specs.Ownership.{IsPart, Refers}
use Rattle.class_defs.specs.Types.{field_named, fields_of, type_named}
use Rattle.class_defs.specs.Upgrades.{path_value, tf_step, tf_value, transformed}
use Rattle.class_defs.specs.declared.classes.Class.{Class}
use Rattle.class_defs.specs.declared.classes.Field.{Field}
use Rattle.class_defs.specs.declared.expressions.Name.{Name}
use Rattle.class_defs.specs.declared.expressions.TypeName.{TypeName}
use Rattle.class_defs.specs.declared.store.Object.{Object}
use Rattle.class_defs.specs.declared.store.Schemas.{Schemas}
use Rattle.class_defs.specs.declared.types.ExprType.TheVariants as type
use Rattle.class_defs.specs.declared.upgrades.ClassUpgrade.{ClassUpgrade}
use Rattle.class_defs.specs.declared.upgrades.FieldUpgrade.{FieldUpgrade}
use Rattle.class_defs.specs.declared.upgrades.Tf.{Tf, map-Tf, out-Tf}
use Rattle.class_defs.specs.declared.upgrades.Tf.TheFolds.{fold_out-Tf}
use Rattle.class_defs.specs.declared.upgrades.Tf.TheOpen.{Tf-F}

-- ---- expressions that hand on a field

-- the field whose reference an expression gives
pub record Given (old : List Class) (v : Object) (h : Option (Option ℕ)) (z : Oref) : Type 0 where
  pub field : ℕ
  pub handed : h ≡ Some (Some field)
  pub holds : slice_get v.fields field ≡ Some (value.Ref z)

fitted_ref : (d : ℕ) (z : Oref) (w : Option Value) → fitted_or_beginning (type.Class d) w ≡ value.Ref z → w ≡ Some (value.Ref z)
fitted_ref d z (Some (value.Ref x)) h = ap Some h
fitted_ref d z (Some (value.Int n)) h = cc
fitted_ref d z (Some (value.Text n)) h = cc
fitted_ref d z (Some value.Null) h = cc
fitted_ref d z None h = cc

module _ (old : List Class) (objects : Oref → Option Object) (v : Object) (d : ℕ) (z : Oref) where
  one_name : (i : Option ℕ) → fitted_or_beginning (type.Class d) (field_at (Some v) i) ≡ value.Ref z → Given old v (Some i) z
  one_name (Some j) h = record { field = j; handed = refl; holds = fitted_ref d z (slice_get v.fields j) h }
  one_name None h = cc

  by_path : (names : List Name) → IsHanded old v.class d (handed_path old v.class names)
      → fitted_or_beginning (type.Class d) (path_value old objects (Some v) names) ≡ value.Ref z → Given old v (handed_path old v.class names) z
  by_path [] is h = absurd is
  by_path (name ∷ []) is h = one_name (field_named old v.class name.text) h
  by_path (name ∷ next ∷ names) is h = absurd is

  abbrev hands : Tf-F Tf → Option (Option ℕ)
  hands y = handed_step old v.class (map-Tf Tf (Option (Option ℕ)) (handed old v.class) y)

  by_layer : (y : Tf-F Tf) → IsHanded old v.class d (hands y)
      → fitted_or_beginning (type.Class d) (tf_step old objects v (map-Tf Tf (Option Value) (tf_value old objects v) y)) ≡ value.Ref z
      → Given old v (hands y) z
  by_layer (Tf-F.Null line) is h = cc
  by_layer (Tf-F.Literal n line) is h = absurd is
  by_layer (Tf-F.Path names line) is h = by_path names is h
  by_layer (Tf-F.Parens inner line) is h = absurd is
  by_layer (Tf-F.Negate operand line) is h = absurd is
  by_layer (Tf-F.Binary operator left right line) is h = absurd is

  handed_out : (t : Tf) → handed old v.class t ≡ hands (out-Tf t)
  unfolding handed
  handed_out t = fold_out-Tf (Option (Option ℕ)) (handed_step old v.class) t

  value_out : (t : Tf) → tf_value old objects v t ≡ tf_step old objects v (map-Tf Tf (Option Value) (tf_value old objects v) (out-Tf t))
  unfolding tf_value
  value_out t = fold_out-Tf (Option Value) (tf_step old objects v) t

  -- where an expression hands on a field and gives a reference, the field holds that
  pub given : (t : Tf) → IsHanded old v.class d (handed old v.class t)
      → fitted_or_beginning (type.Class d) (tf_value old objects v t) ≡ value.Ref z → Given old v (handed old v.class t) z
  given t is h =
      subst (λ a. Given old v a z) (sym (handed_out t))
      (by_layer (out-Tf t) (subst (IsHanded old v.class d) (handed_out t) is) (subst (λ w. fitted_or_beginning (type.Class d) w ≡ value.Ref z) (value_out t) h))

-- ---- one upgrade

-- the expression that gives a field of the new object a reference, and the old field that it hands on
pub record From (old new : List Class) (v : Object) (u : ClassUpgrade) (i d : ℕ) (z : Oref) : Type 0 where
  pub upgrade : FieldUpgrade
  pub place : slice_get u.fields i ≡ Some upgrade
  pub typed : type_named new upgrade.type_name ≡ type.Class d
  pub field : ℕ
  pub handed : handed old v.class upgrade.value ≡ Some (Some field)
  pub refers : Refers old v field d z

-- the types of the new fields are those that the upgrade says
pub types_of : (new : List Class) (fs : List Field) (gs : List FieldUpgrade) (i : ℕ) → map (λ f. f.type_name) fs ≡ map (λ f. f.type_name) gs
    → option_map (λ f. type_named new f.type_name) (slice_get fs i) ≡ option_map (λ f. type_named new f.type_name) (slice_get gs i)
types_of new fs gs i h =
    through (slice_get fs i) ∙ ap (option_map (type_named new)) (sym (slice_get-map (λ f. f.type_name) fs i))
    ∙ ap (λ ts. option_map (type_named new) (slice_get ts i)) h
    ∙ ap (option_map (type_named new)) (slice_get-map (λ f. f.type_name) gs i) ∙ sym (through_upgrade (slice_get gs i))
  where
    through : (f : Option Field) → option_map (λ f. type_named new f.type_name) f ≡ option_map (type_named new) (option_map (λ f. f.type_name) f)
    through (Some f) = refl
    through None = refl

    through_upgrade : (f : Option FieldUpgrade)
        → option_map (λ f. type_named new f.type_name) f ≡ option_map (type_named new) (option_map (λ f. f.type_name) f)
    through_upgrade (Some f) = refl
    through_upgrade None = refl

module _ (s : Schemas) (old new : List Class) (objects : Oref → Option Object) (v : Object) (u : ClassUpgrade) (keeps : KeepsOwnership s old new v.class u) where
  abbrev becomes : FieldUpgrade → Value
  becomes f = fitted_or_beginning (type_named new f.type_name) (tf_value old objects v f.value)

  from_field : (i d j : ℕ) (z : Oref) (f : FieldUpgrade) → slice_get u.fields i ≡ Some f → type_named new f.type_name ≡ type.Class d
      → (h : Option (Option ℕ)) → handed old v.class f.value ≡ h → h ≡ Some (Some j) → IsHanded old v.class d h
      → slice_get v.fields j ≡ Some (value.Ref z)
      → From old new v u i d z
  from_field i d j z f place typed h is at handed holds = record {
    upgrade = f;
    place = place;
    typed = typed;
    field = j;
    handed = is ∙ at;
    refers = record { declared = subst (IsHanded old v.class d) at handed; names = holds };
  }

  from_given : (i d : ℕ) (z : Oref) (f : FieldUpgrade) → slice_get u.fields i ≡ Some f → type_named new f.type_name ≡ type.Class d
      → Given old v (handed old v.class f.value) z → From old new v u i d z
  from_given i d z f place typed g =
      from_field i d g.field z f place typed (handed old v.class f.value) refl g.handed (keeps.references i d f place typed) g.holds

  from_upgrade : (i d : ℕ) (z : Oref) (f : FieldUpgrade) → slice_get u.fields i ≡ Some f → type_named new f.type_name ≡ type.Class d
      → becomes f ≡ value.Ref z → From old new v u i d z
  from_upgrade i d z f place typed h =
      from_given i d z f place typed
      (given old objects v d z f.value (keeps.references i d f place typed) (subst (λ t. fitted_or_beginning t (tf_value old objects v f.value) ≡ value.Ref z) typed h))

  by_place : (i d : ℕ) (z : Oref) (f : Option FieldUpgrade) → slice_get u.fields i ≡ f
      → option_map (λ f. type_named new f.type_name) f ≡ Some (type.Class d)
      → option_map becomes f ≡ Some (value.Ref z) → From old new v u i d z
  by_place i d z None place t h = cc
  by_place i d z (Some f) place t h = from_upgrade i d z f place (same_Some _ _ t) (same_Some _ _ h)

  pub from : (i d : ℕ) (z : Oref) → Refers new (transformed old new objects v (Some u)) i d z → From old new v u i d z
  from i d z r =
      by_place i d z (slice_get u.fields i) refl (sym (types_of new (fields_of new v.class) u.fields i keeps.fields) ∙ r.declared)
      (sym (slice_get-map becomes u.fields i) ∙ r.names)

-- ---- from one epoch to the next

-- where a type's word keeps its meaning, a field keeps its type
pub same_types : (old new : List Class) → ((t : TypeName) → type_named new t ≡ type_named old t) → (f : Option Field)
    → option_map (λ f. type_named new f.type_name) f ≡ option_map (λ f. type_named old f.type_name) f
same_types old new h (Some f) = ap Some (h f.type_name)
same_types old new h None = refl

-- two owned fields of an object name two parts
abbrev pub AreApart : Schemas → List Class → Object → Type 0
AreApart s classes v = (i j c d : ℕ) → (z : Oref) → IsPart s c → IsPart s d → Refers classes v i c z → Refers classes v j d z → i ≡ j

module _ (s : Schemas) (k : ℕ) (keeps : KeepsClasses s k) (objects : Oref → Option Object) (v : Object) where
  abbrev old : List Class
  old = classes_of s k

  abbrev new : List Class
  new = classes_of s (suc k)

  unnamed : next_of s k v.class ≡ None → (i d : ℕ) (z : Oref) → Refers new v i d z → Refers old v i d z
  unnamed is i d z r = record {
    declared = sym (ap (λ fs. option_map (λ f. type_named new f.type_name) (slice_get fs i)) (keeps.others v.class is)
        ∙ same_types old new keeps.types (slice_get (fields_of old v.class) i)) ∙ r.declared;
    names = r.names;
  }

  before : {i d : ℕ} {z : Oref} {u : ClassUpgrade} → From old new v u i d z → (h : ℕ) × Refers old v h d z
  before f = (f.field, f.refers)

  -- a reference behind the upgrade is one of the object before
  pub next_refers : (w : Option ClassUpgrade) → next_of s k v.class ≡ w → (i d : ℕ) (z : Oref) → Refers new (transformed old new objects v w) i d z
      → (h : ℕ) × Refers old v h d z
  next_refers None is i d z r = (i, unnamed is i d z r)
  next_refers (Some u) is i d z r = before (from s old new objects v u (keeps.named v.class u is) i d z r)

  apart_from : AreApart s old v → (u : ClassUpgrade) → KeepsOwnership s old new v.class u → (i j c d : ℕ) (z : Oref) → IsPart s c → IsPart s d
      → From old new v u i c z → From old new v u j d z → i ≡ j
  apart_from once u keeps i j c d z p q f g =
      let e : f.field ≡ g.field = once f.field g.field c d z p q f.refers g.refers in
      keeps.once i j c d f.field f.upgrade g.upgrade f.place g.place f.typed p g.typed q f.handed (g.handed ∙ ap (λ n. Some (Some n)) (sym e))

  pub next_apart : (w : Option ClassUpgrade) → next_of s k v.class ≡ w → AreApart s old v → AreApart s new (transformed old new objects v w)
  next_apart None is once i j c d z p q r t = once i j c d z p q (unnamed is i c z r) (unnamed is j d z t)
  next_apart (Some u) is once i j c d z p q r t =
      let k = keeps.named v.class u is in
      apart_from once u k i j c d z p q (from s old new objects v u k i c z r) (from s old new objects v u k j d z t)
