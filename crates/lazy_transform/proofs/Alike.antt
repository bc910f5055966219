-- Expressions that read the same objects give the same, and read the same.
use Rattle.std.proofs.Common.{◌≡◌, List, [], ◌∷◌, ◌++◌, map, Option, Some, None, refl, ap, sym, ◌∙◌, subst}
use Rattle.std.proofs.lemmas.Grind.{flat_map-append}
use Rattle.std.proofs.lemmas.List.Elements.{Contains-append_left, Contains-append_right, Contains-push}
use Rattle.std.specs.List.{flat_map}
use Rattle.thor_value.specs.declared.names.Oref.{Oref}
use Rattle.thor_value.specs.declared.values.Value.{Value}
use Rattle.thor_value.specs.declared.values.Value.TheVariants as value
use Rattle.class_defs.specs.Objects.{fitted_or_beginning}
use Rattle.class_defs.specs.Types.{type_named}
use Rattle.class_defs.specs.Upgrades.{object_behind, path_value, tf_step, tf_value, transformed}
use Rattle.class_defs.specs.declared.classes.Class.{Class}
use Rattle.class_defs.specs.declared.expressions.Name.{Name}
use Rattle.class_defs.specs.declared.store.Object.{Object}
use Rattle.class_defs.specs.declared.upgrades.ClassUpgrade.{ClassUpgrade}
use Rattle.class_defs.specs.declared.upgrades.FieldUpgrade.{FieldUpgrade}
use Rattle.class_defs.specs.declared.upgrades.Tf.{Tf, map-Tf}
use Rattle.class_defs.specs.declared.upgrades.Tf.TheFolds.{fold-roll-Tf, ind-Tf}
use Rattle.class_defs.specs.declared.upgrades.Tf.TheOpen.{Tf-F}
use Rattle.lazy_transform.specs.Reads.{SameOn, field_behind, named, passed, path_reads, paths_of, paths_of_fields, paths_step, upgrade_reads}

pub left_of : {X : Type 0} (xs ys : List Oref) (f g : Oref → Option X) → SameOn (xs ++ ys) f g → SameOn xs f g
left_of xs ys f g h x c = h x (Contains-append_left xs ys x c)

pub right_of : {X : Type 0} (xs ys : List Oref) (f g : Oref → Option X) → SameOn (xs ++ ys) f g → SameOn ys f g
right_of xs ys f g h x c = h x (Contains-append_right xs ys x c)

module _ (classes : List Class) (f g : Oref → Option Object) where
  -- what a path leads to from a value, with the names that are to come
  abbrev value_from : (Oref → Option Object) → Option Value → List Name → Option Value
  value_from objects v [] = v
  value_from objects v (name ∷ names) = value_from objects (field_behind classes (object_behind objects v) name) names

  path_is : (objects : Oref → Option Object) (o : Option Object) (name : Name) (names : List Name)
      → path_value classes objects o (name ∷ names) ≡ value_from objects (field_behind classes o name) names
  path_is objects o name [] = refl
  path_is objects o name (next ∷ names) = path_is objects (object_behind objects (field_behind classes o name)) next names

  -- where both have the object that a value names, it is the same
  pub behind_alike : (v : Option Value) → SameOn (named v) f g → object_behind g v ≡ object_behind f v
  behind_alike (Some (value.Ref z)) h = h z (Contains-push [] z)
  behind_alike (Some (value.Int n)) h = refl
  behind_alike (Some (value.Text n)) h = refl
  behind_alike (Some value.Null) h = refl
  behind_alike None h = refl

  from_alike : (v : Option Value) (names : List Name) → SameOn (passed classes f v names) f g
      → (value_from g v names ≡ value_from f v names) × (passed classes g v names ≡ passed classes f v names)
  from_alike v [] h = (refl, refl)
  from_alike v (name ∷ names) h =
      let ahead = passed classes f (field_behind classes (object_behind f v) name) names in
      let same = behind_alike v (left_of (named v) ahead f g h) in
      let rest = from_alike (field_behind classes (object_behind f v) name) names (right_of (named v) ahead f g h) in (
        ap (λ o. value_from g (field_behind classes o name) names) same ∙ rest.0,
        ap (λ o. named v ++ passed classes g (field_behind classes o name) names) same ∙ ap (λ xs. named v ++ xs) rest.1,
      )

  module _ (o : Object) where
    path_alike : (names : List Name) → SameOn (path_reads classes f o names) f g
        → (path_value classes g (Some o) names ≡ path_value classes f (Some o) names) × (path_reads classes g o names ≡ path_reads classes f o names)
    path_alike [] h = (refl, refl)
    path_alike (name ∷ names) h =
        let r = from_alike (field_behind classes (Some o) name) names h in
        (path_is g (Some o) name names ∙ r.0 ∙ sym (path_is f (Some o) name names), r.1)

    -- what several paths read
    abbrev all_of : (Oref → Option Object) → List (List Name) → List Oref
    all_of objects paths = flat_map (path_reads classes objects o) paths

    all_alike : (paths : List (List Name)) → SameOn (all_of f paths) f g → all_of g paths ≡ all_of f paths
    all_alike [] h = refl
    all_alike (p ∷ ps) h =
        ap (λ xs. xs ++ all_of g ps) (path_alike p (left_of (path_reads classes f o p) (all_of f ps) f g h)).1
        ∙ ap (λ xs. path_reads classes f o p ++ xs) (all_alike ps (right_of (path_reads classes f o p) (all_of f ps) f g h))

    first_paths : (ps qs : List (List Name)) → SameOn (all_of f (ps ++ qs)) f g → SameOn (all_of f ps) f g
    first_paths ps qs h = left_of (all_of f ps) (all_of f qs) f g (subst (λ xs. SameOn xs f g) (flat_map-append (path_reads classes f o) ps qs) h)

    last_paths : (ps qs : List (List Name)) → SameOn (all_of f (ps ++ qs)) f g → SameOn (all_of f qs) f g
    last_paths ps qs h = right_of (all_of f ps) (all_of f qs) f g (subst (λ xs. SameOn xs f g) (flat_map-append (path_reads classes f o) ps qs) h)

    abbrev IsAlike : Tf → Type 0
    IsAlike t = SameOn (all_of f (paths_of t)) f g → tf_value classes g o t ≡ tf_value classes f o t

    by_layer : (y : Tf-F ((t : Tf) × IsAlike t))
        → SameOn (all_of f (paths_step (map-Tf Tf (List (List Name)) paths_of (map-Tf ((t : Tf) × IsAlike t) Tf (λ p. p.0) y)))) f g
        → tf_step classes g o (map-Tf Tf (Option Value) (tf_value classes g o) (map-Tf ((t : Tf) × IsAlike t) Tf (λ p. p.0) y))
        ≡ tf_step classes f o (map-Tf Tf (Option Value) (tf_value classes f o) (map-Tf ((t : Tf) × IsAlike t) Tf (λ p. p.0) y))
    by_layer (Tf-F.Null line) h = refl
    by_layer (Tf-F.Literal n line) h = refl
    by_layer (Tf-F.Path names line) h = (path_alike names (left_of (path_reads classes f o names) [] f g h)).0
    by_layer (Tf-F.Parens inner line) h = inner.1 h
    by_layer (Tf-F.Negate operand line) h = ap (λ w. tf_step classes g o (Tf-F.Negate w line)) (operand.1 h)
    by_layer (Tf-F.Binary operator left right line) h =
        ap (λ w. tf_step classes g o (Tf-F.Binary operator w (tf_value classes g o right.0) line)) (left.1 (first_paths (paths_of left.0) (paths_of right.0) h))
        ∙ ap (λ w. tf_step classes g o (Tf-F.Binary operator (tf_value classes f o left.0) w line)) (right.1 (last_paths (paths_of left.0) (paths_of right.0) h))

    -- an expression gives the same over objects that agree where it reads
    expression_alike : (t : Tf) → IsAlike t
    unfolding tf_value paths_of
    expression_alike = ind-Tf IsAlike (λ x y is h.
        fold-roll-Tf (Option Value) (tf_step classes g o) x
        ∙ subst (λ z. tf_step classes g o (map-Tf Tf (Option Value) (tf_value classes g o) z) ≡ tf_step classes f o (map-Tf Tf (Option Value) (tf_value classes f o) z)) is
        (by_layer y (subst (λ z. SameOn (all_of f (paths_step (map-Tf Tf (List (List Name)) paths_of z))) f g) (sym is)
        (subst (λ ps. SameOn (all_of f ps) f g) (fold-roll-Tf (List (List Name)) paths_step x) h)))
        ∙ sym (fold-roll-Tf (Option Value) (tf_step classes f o) x))

    fields_alike : (new : List Class) (fields : List FieldUpgrade) → SameOn (all_of f (paths_of_fields fields)) f g
        → map (λ u. fitted_or_beginning (type_named new u.type_name) (tf_value classes g o u.value)) fields
        ≡ map (λ u. fitted_or_beginning (type_named new u.type_name) (tf_value classes f o u.value)) fields
    fields_alike new [] h = refl
    fields_alike new (u ∷ us) h =
        ap (λ w. fitted_or_beginning (type_named new u.type_name) w ∷ map (λ k. fitted_or_beginning (type_named new k.type_name) (tf_value classes g o k.value)) us)
        (expression_alike u.value (first_paths (paths_of u.value) (paths_of_fields us) h))
        ∙ ap (λ ws. fitted_or_beginning (type_named new u.type_name) (tf_value classes f o u.value) ∷ ws)
        (fields_alike new us (last_paths (paths_of u.value) (paths_of_fields us) h))

    -- what an upgrade makes of an object is the same over objects that agree where it reads
    pub transformed_alike : (new : List Class) (said : Option ClassUpgrade) → SameOn (upgrade_reads classes f o said) f g
        → transformed classes new g o said ≡ transformed classes new f o said
    transformed_alike new None h = refl
    transformed_alike new (Some u) h = ap (λ fs. record o { fields = fs }) (fields_alike new u.fields h)

    -- and it reads the same of them
    pub reads_alike : (said : Option ClassUpgrade) → SameOn (upgrade_reads classes f o said) f g
        → upgrade_reads classes g o said ≡ upgrade_reads classes f o said
    reads_alike None h = refl
    reads_alike (Some u) h = all_alike (paths_of_fields u.fields) h
