-- That lines don't count for what an upgrade does.
use Rattle.class_defs.specs.LinesAside.{name_on_line_1, type_on_line_1}
use Rattle.class_defs.specs.Objects.{fitted_or_beginning}
use Rattle.class_defs.specs.Types.{type_named}
use Rattle.class_defs.specs.UpgradeLinesAside.{class_on_line_1, field_on_line_1, tf_on_line_1, tf_step_on_line_1, upgrade_on_line_1}
use Rattle.class_defs.specs.Upgrades.{object_behind, path_value, tf_step, tf_value, transformed, up, upgrade_of}
use Rattle.class_defs.specs.declared.classes.Class.{Class}
use Rattle.class_defs.specs.declared.expressions.Name.{Name}
use Rattle.class_defs.specs.declared.expressions.TypeName.TheVariants as type_name
use Rattle.class_defs.specs.declared.expressions.TypeName.{TypeName}
use Rattle.class_defs.specs.declared.store.Object.{Object}
use Rattle.class_defs.specs.declared.store.Plain.{Plain}
use Rattle.class_defs.specs.declared.upgrades.ClassUpgrade.{ClassUpgrade}
use Rattle.class_defs.specs.declared.upgrades.FieldUpgrade.{FieldUpgrade}
use Rattle.class_defs.specs.declared.upgrades.Tf.TheFolds.{fold-roll-Tf, ind-Tf}
use Rattle.class_defs.specs.declared.upgrades.Tf.TheOpen.{Tf-F}
use Rattle.class_defs.specs.declared.upgrades.Tf.TheVariants as tf
use Rattle.class_defs.specs.declared.upgrades.Tf.{Tf, map-Tf}
use Rattle.class_defs.specs.declared.upgrades.Upgrade.{Upgrade}
use Rattle.std.proofs.Common.{Bool, List, [], ap, ap₂, false, map, refl, subst, sym, true, ℕ, ◌+◌, ◌≡◌, ◌∙◌, ◌∷◌}
use Rattle.std.specs.Option.{option_and_then, option_map}
use Rattle.std.specs.Prelude.{None, Option, Some, cond, find, slice_get}
use Rattle.std.specs.Str.{bytes_eq}
use Rattle.thor_value.specs.FiniteMap.{get}
use Rattle.thor_value.specs.declared.names.Oref.{Oref}
use Rattle.thor_value.specs.declared.values.Value.{Value}

map-map : {X Y Z : Type 0} (f : X → Y) (g : Y → Z) (h : X → Z) → ((x : X) → g (f x) ≡ h x) → (xs : List X) → map g (map f xs) ≡ map h xs
map-map f g h is [] = refl
map-map f g h is (x ∷ xs) = ap₂ (λ y ys. y ∷ ys) (is x) (map-map f g h is xs)

map-same : {X Y : Type 0} (f g : X → Y) → ((x : X) → f x ≡ g x) → (xs : List X) → map f xs ≡ map g xs
map-same f g is [] = refl
map-same f g is (x ∷ xs) = ap₂ (λ y ys. y ∷ ys) (is x) (map-same f g is xs)

find-map : {X : Type 0} (f : X → X) (test : X → Bool) → ((x : X) → test (f x) ≡ test x) → (xs : List X) → find test (map f xs) ≡ option_map f (find test xs)
find-map f test is [] = refl
find-map f test is (x ∷ xs) = by (test x) (is x) (find-map f test is xs)
  where
    by : (b : Bool) → test (f x) ≡ b → find test (map f xs) ≡ option_map f (find test xs)
        → cond (test (f x)) (Some (f x)) (find test (map f xs)) ≡ option_map f (cond b (Some x) (find test xs))
    by true e more = ap (λ c. cond c (Some (f x)) (find test (map f xs))) e
    by false e more = ap (λ c. cond c (Some (f x)) (find test (map f xs))) e ∙ more

type-aside : (classes : List Class) (t : TypeName) → type_named classes (type_on_line_1 t) ≡ type_named classes t
type-aside classes (type_name.Int line) = refl
type-aside classes (type_name.Class name) = refl

-- ---- the expressions of new fields

module _ (classes : List Class) (objects : Oref → Option Object) where
  path-aside : (o : Option Object) (names : List Name) → path_value classes objects o (map name_on_line_1 names) ≡ path_value classes objects o names
  path-aside o [] = refl
  path-aside o (name ∷ []) = refl
  path-aside o (name ∷ next ∷ names) = path-aside (object_behind objects (option_and_then (λ p. Rattle.class_defs.specs.Upgrades.field_of_object classes p name.text) o)) (next ∷ names)

  module _ (o : Object) where
    abbrev value_at : Tf → Option Value
    value_at t = tf_value classes objects o t

    abbrev IsSame : Tf → Type 0
    IsSame t = value_at (tf_on_line_1 t) ≡ value_at t

    abbrev trees : Tf-F ((t : Tf) × IsSame t) → Tf-F Tf
    trees y = map-Tf ((t : Tf) × IsSame t) Tf (λ p. p.0) y

    rolled : (x : Tf-F Tf) (t : Tf) → Rattle.class_defs.specs.declared.upgrades.Tf.roll-Tf x ≡ t → value_at t ≡ tf_step classes objects o (map-Tf Tf (Option Value) value_at x)
    unfolding tf_value
    rolled x t is = ap value_at (sym is) ∙ fold-roll-Tf (Option Value) (tf_step classes objects o) x

    by_layer : (y : Tf-F ((t : Tf) × IsSame t))
        → value_at (tf_step_on_line_1 (map-Tf Tf Tf tf_on_line_1 (trees y))) ≡ tf_step classes objects o (map-Tf Tf (Option Value) value_at (trees y))
    by_layer (Tf-F.Null line) = rolled (Tf-F.Null 1) (tf.Null 1) (tf.rolls-Null 1)
    by_layer (Tf-F.Literal n line) = rolled (Tf-F.Literal n 1) (tf.Literal n 1) (tf.rolls-Literal n 1)
    by_layer (Tf-F.Path names line) = rolled (Tf-F.Path (map name_on_line_1 names) 1) (tf.Path (map name_on_line_1 names) 1) (tf.rolls-Path (map name_on_line_1 names) 1) ∙ path-aside (Some o) names
    by_layer (Tf-F.Parens inner line) = rolled (Tf-F.Parens (tf_on_line_1 inner.0) 1) (tf.Parens (tf_on_line_1 inner.0) 1) (tf.rolls-Parens (tf_on_line_1 inner.0) 1) ∙ inner.1
    by_layer (Tf-F.Negate operand line) =
        rolled (Tf-F.Negate (tf_on_line_1 operand.0) 1) (tf.Negate (tf_on_line_1 operand.0) 1) (tf.rolls-Negate (tf_on_line_1 operand.0) 1)
        ∙ ap (λ v. tf_step classes objects o (Tf-F.Negate v 1)) operand.1
    by_layer (Tf-F.Binary operator left right line) =
        rolled (Tf-F.Binary operator (tf_on_line_1 left.0) (tf_on_line_1 right.0) 1) (tf.Binary operator (tf_on_line_1 left.0) (tf_on_line_1 right.0) 1) (tf.rolls-Binary operator (tf_on_line_1 left.0) (tf_on_line_1 right.0) 1)
        ∙ ap₂ (λ v w. tf_step classes objects o (Tf-F.Binary operator v w 1)) left.1 right.1

    tf-aside : (t : Tf) → IsSame t
    tf-aside = ind-Tf IsSame (λ x y is.
        ap value_at (fold-roll-Tf Tf tf_step_on_line_1 x)
        ∙ subst (λ z. value_at (tf_step_on_line_1 (map-Tf Tf Tf tf_on_line_1 z)) ≡ tf_step classes objects o (map-Tf Tf (Option Value) value_at z)) is (by_layer y)
        ∙ sym (rolled x (Rattle.class_defs.specs.declared.upgrades.Tf.roll-Tf x) refl))

-- ---- upgrades

module _ (old new : List Class) where
  upgrade_of-aside : (u : Upgrade) (c : ℕ) → upgrade_of old (upgrade_on_line_1 u) c ≡ option_map class_on_line_1 (upgrade_of old u c)
  upgrade_of-aside u c = by (slice_get old c)
    where
      by : (d : Option Class) → option_and_then (λ d. find (λ k. bytes_eq k.name.text d.name.text) (upgrade_on_line_1 u).classes) d
          ≡ option_map class_on_line_1 (option_and_then (λ d. find (λ k. bytes_eq k.name.text d.name.text) u.classes) d)
      by None = refl
      by (Some d) = find-map class_on_line_1 (λ (k : ClassUpgrade). bytes_eq k.name.text d.name.text) (λ k. refl) u.classes

  transformed-aside : (objects : Oref → Option Object) (o : Object) (k : Option ClassUpgrade) → transformed old new objects o (option_map class_on_line_1 k) ≡ transformed old new objects o k
  transformed-aside objects o None = refl
  transformed-aside objects o (Some k) =
      ap (λ vs. record o { fields = vs }) (map-map field_on_line_1 (λ (f : FieldUpgrade). fitted_or_beginning (type_named new f.type_name) (tf_value old objects o f.value)) (λ (f : FieldUpgrade). fitted_or_beginning (type_named new f.type_name) (tf_value old objects o f.value))
      (λ f. ap₂ fitted_or_beginning (type-aside new f.type_name) (tf-aside old objects o f.value)) k.fields)

  line-1 : (u : Upgrade) (store : Plain) → up old new (upgrade_on_line_1 u) store ≡ up old new u store
  unfolding up
  line-1 u store = ap (λ ps. record store { objects = record { pairs = ps }; epoch = store.epoch + 1 })
      (map-same (λ p. (p.0, transformed old new (get store.objects) p.1 (upgrade_of old (upgrade_on_line_1 u) p.1.class))) (λ p. (p.0, transformed old new (get store.objects) p.1 (upgrade_of old u p.1.class)))
      (λ p. ap (λ v. (p.0, v)) (ap (transformed old new (get store.objects) p.1) (upgrade_of-aside u p.1.class) ∙ transformed-aside (get store.objects) p.1 (upgrade_of old u p.1.class))) store.objects.pairs)

  pub up-aside : (u v : Upgrade) (store : Plain) → upgrade_on_line_1 u ≡ upgrade_on_line_1 v → up old new u store ≡ up old new v store
  up-aside u v store is = sym (line-1 u store) ∙ ap (λ w. up old new w store) is ∙ line-1 v store
