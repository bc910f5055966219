-- That an object stays of its class through upgrades: it gets as many fields as its class, each of its kind.
use Rattle.std.proofs.Common.{◌≡◌, List, ℕ, suc, length, Option, Some, None, is_some, true, option_map, slice_get, refl, ap, sym, ◌∙◌, subst}
use Rattle.std.proofs.lemmas.List.{length-map}
use Rattle.std.proofs.lemmas.Option.{slice_get-map, same_Some}
use Rattle.thor_value.specs.declared.names.Oref.{Oref}
use Rattle.thor_value.specs.declared.values.Value.{Value}
use Rattle.thor_value.specs.declared.values.Value.TheVariants as value
use Rattle.law_lazy_upgrade.proofs.Handing.{same_types, types_of}
use Rattle.class_defs.specs.Epochs.{classes_of, next_of}
use Rattle.class_defs.specs.KeptOwnership.{KeepsClasses, KeepsOwnership}
use Rattle.class_defs.specs.Objects.{fitted_or_beginning}
use Rattle.class_defs.specs.Ownership.{type_at}
use Rattle.class_defs.specs.Steps.{fitted}
use Rattle.class_defs.specs.Types.{fields_of, type_named}
use Rattle.class_defs.specs.Upgrades.{tf_value, transformed}
use Rattle.class_defs.specs.WellOwned.{IsOfItsClass}
use Rattle.class_defs.specs.declared.classes.Class.{Class}
use Rattle.class_defs.specs.declared.store.Object.{Object}
use Rattle.class_defs.specs.declared.store.Schemas.{Schemas}
use Rattle.class_defs.specs.declared.types.ExprType.{ExprType}
use Rattle.class_defs.specs.declared.types.ExprType.TheVariants as type
use Rattle.class_defs.specs.declared.upgrades.ClassUpgrade.{ClassUpgrade}
use Rattle.class_defs.specs.declared.upgrades.FieldUpgrade.{FieldUpgrade}

fitted_twice : (t : ExprType) (w : Value) → fitted t (fitted t w) ≡ fitted t w
fitted_twice type.Int (value.Int n) = refl
fitted_twice type.Text (value.Int n) = refl
fitted_twice type.Text (value.Text n) = refl
fitted_twice type.Int (value.Text n) = refl
fitted_twice type.Int (value.Ref x) = refl
fitted_twice type.Text (value.Ref x) = refl
fitted_twice type.Int value.Null = refl
fitted_twice type.Text value.Null = refl
fitted_twice (type.Class c) (value.Int n) = refl
fitted_twice (type.Class c) (value.Text n) = refl
fitted_twice (type.Class c) (value.Ref x) = refl
fitted_twice (type.Class c) value.Null = refl
fitted_twice type.Null w = refl
fitted_twice type.Untold w = refl

fitted_beginning : (t : ExprType) → fitted t (fitted_or_beginning t None) ≡ fitted_or_beginning t None
fitted_beginning type.Int = refl
fitted_beginning type.Text = refl
fitted_beginning (type.Class c) = refl
fitted_beginning type.Null = refl
fitted_beginning type.Untold = refl

fitted_then : (t : ExprType) (w : Option Value) → fitted t (fitted_or_beginning t w) ≡ fitted_or_beginning t w
fitted_then t (Some w) = fitted_twice t w
fitted_then t None = fitted_beginning t

-- a reference fits a class alone
fitted_class : (t : ExprType) (w : Option Value) (z : Oref) → fitted_or_beginning t w ≡ value.Ref z → (d : ℕ) × (t ≡ type.Class d)
fitted_class (type.Class d) w z h = (d, refl)
fitted_class type.Int (Some (value.Int n)) z h = cc
fitted_class type.Text (Some (value.Int n)) z h = cc
fitted_class type.Text (Some (value.Text n)) z h = cc
fitted_class type.Int (Some (value.Text n)) z h = cc
fitted_class type.Int (Some (value.Ref x)) z h = cc
fitted_class type.Text (Some (value.Ref x)) z h = cc
fitted_class type.Int (Some value.Null) z h = cc
fitted_class type.Text (Some value.Null) z h = cc
fitted_class type.Int None z h = cc
fitted_class type.Text None z h = cc
fitted_class type.Null (Some w) z h = cc
fitted_class type.Null None z h = cc
fitted_class type.Untold (Some w) z h = cc
fitted_class type.Untold None z h = cc

-- each reference of an object stands in a field of a class
abbrev pub AreDeclared : List Class → Object → Type 0
AreDeclared classes v = (i : ℕ) → (z : Oref) → slice_get v.fields i ≡ Some (value.Ref z) → (d : ℕ) × (type_at classes v.class i ≡ Some (type.Class d))

module _ (s : Schemas) (old new : List Class) (objects : Oref → Option Object) (v : Object) (u : ClassUpgrade) (keeps : KeepsOwnership s old new v.class u) where
  abbrev becomes : FieldUpgrade → Value
  becomes f = fitted_or_beginning (type_named new f.type_name) (tf_value old objects v f.value)

  kind : (f : Option FieldUpgrade) (t : ExprType) (w : Value) → option_map (λ f. type_named new f.type_name) f ≡ Some t
      → option_map becomes f ≡ Some w → fitted t w ≡ w
  kind None t w h g = cc
  kind (Some f) t w h g =
      let a : type_named new f.type_name ≡ t = same_Some _ _ h in
      let b : becomes f ≡ w = same_Some _ _ g in
      subst (λ x. fitted t x ≡ x) b (subst (λ k. fitted k (becomes f) ≡ becomes f) a (fitted_then (type_named new f.type_name) (tf_value old objects v f.value)))

  class_of : (i : ℕ) (z : Oref) (f : Option FieldUpgrade) → slice_get u.fields i ≡ f → option_map becomes f ≡ Some (value.Ref z)
      → (d : ℕ) × (type_at new v.class i ≡ Some (type.Class d))
  class_of i z None is h = cc
  class_of i z (Some f) is h =
      let p = fitted_class (type_named new f.type_name) (tf_value old objects v f.value) z (same_Some _ _ h) in
      (p.0, types_of new (fields_of new v.class) u.fields i keeps.fields ∙ ap (option_map (λ f. type_named new f.type_name)) is ∙ ap Some p.1)

  declared : AreDeclared new (transformed old new objects v (Some u))
  declared i z h = class_of i z (slice_get u.fields i) refl (sym (slice_get-map becomes u.fields i) ∙ h)

  named : is_some (slice_get new v.class) ≡ true → IsOfItsClass new (transformed old new objects v (Some u))
  named there = record {
    class = there;
    count = length-map u.fields becomes ∙ sym (length-map u.fields (λ f. f.type_name)) ∙ ap length (sym keeps.fields)
        ∙ length-map (fields_of new v.class) (λ f. f.type_name);
    kinds = λ i t w h g. kind (slice_get u.fields i) t w (sym (types_of new (fields_of new v.class) u.fields i keeps.fields) ∙ h)
        (sym (slice_get-map becomes u.fields i) ∙ g);
  }

module _ (s : Schemas) (k : ℕ) (keeps : KeepsClasses s k) (objects : Oref → Option Object) (v : Object) where
  -- a class that the upgrade doesn't name keeps the types of its fields
  same_type : next_of s k v.class ≡ None → (i : ℕ) → type_at (classes_of s (suc k)) v.class i ≡ type_at (classes_of s k) v.class i
  same_type is i =
      ap (λ fs. option_map (λ f. type_named (classes_of s (suc k)) f.type_name) (slice_get fs i)) (keeps.others v.class is)
      ∙ same_types (classes_of s k) (classes_of s (suc k)) keeps.types (slice_get (fields_of (classes_of s k) v.class) i)

  -- behind an upgrade an object is of its new class
  pub next_kinds : (w : Option ClassUpgrade) → next_of s k v.class ≡ w → IsOfItsClass (classes_of s k) v
      → IsOfItsClass (classes_of s (suc k)) (transformed (classes_of s k) (classes_of s (suc k)) objects v w)
  next_kinds None is h = record {
    class = keeps.known v.class ∙ h.class;
    count = h.count ∙ sym (ap length (keeps.others v.class is));
    kinds = λ i t w g r. h.kinds i t w (sym (same_type is i) ∙ g) r;
  }
  next_kinds (Some u) is h = named s (classes_of s k) (classes_of s (suc k)) objects v u (keeps.named v.class u is) (keeps.known v.class ∙ h.class)

  -- and each of its references stands in a field of a class
  pub next_declared : (w : Option ClassUpgrade) → next_of s k v.class ≡ w → AreDeclared (classes_of s k) v
      → AreDeclared (classes_of s (suc k)) (transformed (classes_of s k) (classes_of s (suc k)) objects v w)
  next_declared None is h i z r = let p = h i z r in (p.0, same_type is i ∙ p.1)
  next_declared (Some u) is h i z r = declared s (classes_of s k) (classes_of s (suc k)) objects v u (keeps.named v.class u is) i z r
