-- That the value of an object depends on the object and on those below it alone: they are all that the upgrades read.
use Rattle.std.proofs.Common.{◌≡◌, ◌≤◌, ◌<◌, arith, Bool, true, false, cond, not, is_some, List, [], ◌∷◌, ℕ, zero, suc, nat_lt, Option, Some, None, option_map, slice_get, map, refl, ap, sym, ◌∙◌, subst}
use Rattle.std.proofs.lemmas.Bool.{ltb-false, ltb-true, and_parts, true≢false}
use Rattle.std.specs.Option.{IsSomeAnd, option_and_then}
use Rattle.std.specs.Prelude.{◌&&◌}
use Rattle.thor_value.specs.FiniteMap.{get}
use Rattle.thor_value.specs.declared.names.Oref.{Oref}
use Rattle.thor_value.specs.declared.values.Obj.{Obj}
use Rattle.thor_value.specs.declared.values.Value.{Value}
use Rattle.thor_value.specs.declared.values.Value.TheVariants as value
use Rattle.law_lazy_upgrade.proofs.Shrinking.{same_kind, shrinks}
use Rattle.class_defs.proofs.Levels.{changes_not, lags_to_level}
use Rattle.law_lazy_upgrade.proofs.Values.{get-each, value_class}
use Rattle.class_defs.specs.Eager.{next_value, value as value_of, values}
use Rattle.class_defs.specs.Epochs.{classes_of, next_of}
use Rattle.class_defs.specs.KeptOwnership.{AllKeepClasses, is_owned_path, owned_step, part_class, part_held, reads_owned}
use Rattle.class_defs.specs.Levels.{changes, level}
use Rattle.class_defs.specs.Objects.{field_at, fitted_or_beginning}
use Rattle.class_defs.specs.Ownership.{IsAbove, Names, Owns, Refers, type_at}
use Rattle.class_defs.specs.Rules.{is_part}
use Rattle.class_defs.specs.Stored.{Objects}
use Rattle.class_defs.specs.Types.{field_named, type_named}
use Rattle.class_defs.specs.Upgrades.{field_of_object, object_behind, path_value, tf_step, tf_value, transformed}
use Rattle.class_defs.specs.declared.classes.Class.{Class}
use Rattle.class_defs.specs.declared.expressions.Name.{Name}
use Rattle.class_defs.specs.declared.store.Object.{Object}
use Rattle.class_defs.specs.declared.store.Schemas.{Schemas}
use Rattle.class_defs.specs.declared.types.ExprType.{ExprType}
use Rattle.class_defs.specs.declared.types.ExprType.TheVariants as type
use Rattle.class_defs.specs.declared.upgrades.ClassUpgrade.{ClassUpgrade}
use Rattle.class_defs.specs.declared.upgrades.FieldUpgrade.{FieldUpgrade}
use Rattle.class_defs.specs.declared.upgrades.Tf.{Tf, map-Tf}
use Rattle.class_defs.specs.declared.upgrades.Tf.TheFolds.{fold-roll-Tf, ind-Tf}
use Rattle.class_defs.specs.declared.upgrades.Tf.TheOpen.{Tf-F}

-- ---- going down

-- what an object owns is one step further below what is above it
pub down_one : (s : Schemas) (m : Objects) (n : ℕ) (x y z : Oref) (i : ℕ) → IsAbove s m n x y → Owns s m y i z → IsAbove s m (suc n) x z
down_one s m zero x y z i h o = (z, (i, (subst (λ w. Owns s m w i z) (sym h) o, refl)))
down_one s m (suc n) x y z i h o = (h.0, (h.1.0, (h.1.1.0, down_one s m n h.0 y z i h.1.1.1 o)))

-- ---- expressions over two maps

module _ (classes : List Class) (f g : Oref → Option Object) (v : Object)
    (paths : (names : List Name) → is_owned_path classes (Some v.class) names ≡ true → path_value classes f (Some v) names ≡ path_value classes g (Some v) names) where
  abbrev IsAlike : Tf → Type 0
  IsAlike t = reads_owned classes v.class t ≡ true → tf_value classes f v t ≡ tf_value classes g v t

  by_layer : (y : Tf-F ((t : Tf) × IsAlike t))
      → owned_step classes v.class (map-Tf Tf Bool (reads_owned classes v.class) (map-Tf ((t : Tf) × IsAlike t) Tf (λ p. p.0) y)) ≡ true
      → tf_step classes f v (map-Tf Tf (Option Value) (tf_value classes f v) (map-Tf ((t : Tf) × IsAlike t) Tf (λ p. p.0) y))
      ≡ tf_step classes g v (map-Tf Tf (Option Value) (tf_value classes g v) (map-Tf ((t : Tf) × IsAlike t) Tf (λ p. p.0) y))
  by_layer (Tf-F.Null line) h = refl
  by_layer (Tf-F.Literal n line) h = refl
  by_layer (Tf-F.Path names line) h = paths names h
  by_layer (Tf-F.Parens inner line) h = inner.1 h
  by_layer (Tf-F.Negate operand line) h = ap (λ w. tf_step classes f v (Tf-F.Negate w line)) (operand.1 h)
  by_layer (Tf-F.Binary operator left right line) h =
      ap (λ w. tf_step classes f v (Tf-F.Binary operator w (tf_value classes f v right.0) line)) (left.1 ((and_parts _ _ h).0))
      ∙ ap (λ w. tf_step classes f v (Tf-F.Binary operator (tf_value classes g v left.0) w line)) (right.1 ((and_parts _ _ h).1))

  -- an expression whose paths go through owned fields gives the same over both
  pub expression_alike : (t : Tf) → IsAlike t
  unfolding tf_value reads_owned
  expression_alike = ind-Tf IsAlike (λ x y is h.
      fold-roll-Tf (Option Value) (tf_step classes f v) x
      ∙ subst (λ z. tf_step classes f v (map-Tf Tf (Option Value) (tf_value classes f v) z) ≡ tf_step classes g v (map-Tf Tf (Option Value) (tf_value classes g v) z)) is
      (by_layer y (subst (λ z. owned_step classes v.class (map-Tf Tf Bool (reads_owned classes v.class) z) ≡ true) (sym is)
      (sym (fold-roll-Tf Bool (owned_step classes v.class) x) ∙ h)))
      ∙ sym (fold-roll-Tf (Option Value) (tf_step classes g v) x))

-- ---- owned fields

-- an owned field of an object, and the part that it names
pub record Held (classes : List Class) (v : Object) (d : ℕ) (z : Oref) : Type 0 where
  pub field : ℕ
  pub refers : Refers classes v field d z
  pub part : is_part classes (type.Class d) ≡ true

module _ (classes : List Class) (v : Object) (d : ℕ) (z : Oref) where
  held_class : (i c : ℕ) (b : Bool) → is_part classes (type.Class c) ≡ b → type_at classes v.class i ≡ Some (type.Class c)
      → slice_get v.fields i ≡ Some (value.Ref z) → cond b (Some c) None ≡ Some d → Held classes v d z
  held_class i c true is t h e =
      let same : c ≡ d = cc in
      record {
        field = i;
        refers = record { declared = t ∙ ap (λ n. Some (type.Class n)) same; names = h };
        part = sym (ap (λ n. is_part classes (type.Class n)) same) ∙ is;
      }
  held_class i c false is t h e = cc

  held_type : (i : ℕ) (t : Option ExprType) → type_at classes v.class i ≡ t → slice_get v.fields i ≡ Some (value.Ref z)
      → part_class classes t ≡ Some d → Held classes v d z
  held_type i (Some (type.Class c)) t h e = held_class i c (is_part classes (type.Class c)) refl t h e
  held_type i (Some type.Int) t h e = cc
  held_type i (Some type.Text) t h e = cc
  held_type i (Some type.Null) t h e = cc
  held_type i (Some type.Untold) t h e = cc
  held_type i None t h e = cc

  held_at : (i : Option ℕ) → field_at (Some v) i ≡ Some (value.Ref z)
      → part_class classes (option_and_then (type_at classes v.class) i) ≡ Some d → Held classes v d z
  held_at (Some i) h e = held_type i (type_at classes v.class i) refl h e
  held_at None h e = cc

  pub held : (name : List ℕ) → field_of_object classes v name ≡ Some (value.Ref z) → part_held classes v.class name ≡ Some d → Held classes v d z
  held name h e = held_at (field_named classes v.class name) h e

-- ---- values over two maps

nothing_alike : (classes : List Class) (f g : Oref → Option Object) (names : List Name)
    → path_value classes f None names ≡ path_value classes g None names
nothing_alike classes f g [] = refl
nothing_alike classes f g (name ∷ []) = refl
nothing_alike classes f g (name ∷ next ∷ names) = nothing_alike classes f g (next ∷ names)

module _ (s : Schemas) (e : ℕ) (keeps : AllKeepClasses s e) (m n : Objects) (P : Oref → Type 0)
    (same : (y : Oref) → P y → get m y ≡ get n y)
    (down : (y : Oref) (i : ℕ) (z : Oref) → P y → Owns s m y i z → P z)
    (declared : (y : Oref) (i d : ℕ) (z : Oref) → Names s m y i d z → IsSomeAnd (get m z) (λ o. o.class ≡ d)) where
  -- in epoch k all objects have the same value over both maps
  abbrev AreSame : ℕ → Type 0
  AreSame k = (y : Oref) → (o : Obj) → P y → get m y ≡ Some o → value_of s m k o ≡ value_of s n k o

  module _ (k : ℕ) (within : k ≤ e) (x : Oref) (low : (j : ℕ) (y : Oref) (p : Obj) → IsAbove s m j x y → get m y ≡ Some p → p.ver ≤ k) (before : AreSame k) where
    abbrev old : List Class
    old = classes_of s k

    abbrev ours : Oref → Option Object
    ours = get (values s m k)

    abbrev theirs : Oref → Option Object
    theirs = get (values s n k)

    ours_at : (z : Oref) (p : Obj) → get m z ≡ Some p → ours z ≡ Some (value_of s m k p)
    ours_at z p is = get-each (value_of s m k) m z ∙ ap (option_map (value_of s m k)) is

    theirs_at : (z : Oref) (p : Obj) → P z → get m z ≡ Some p → theirs z ≡ Some (value_of s m k p)
    theirs_at z p q is =
        get-each (value_of s n k) n z ∙ ap (option_map (value_of s n k)) (sym (same z q) ∙ is) ∙ ap Some (sym (before z p q is))

    owns : (y z : Oref) (p : Obj) (d : ℕ) → get m y ≡ Some p → p.ver ≤ k → Held old (value_of s m k p) d z
        → (i : ℕ) × (Owns s m y i z × Names s m y i d z)
    owns y z p d is h t =
        let r = shrinks s e keeps m p k h within t.field d z t.refers in
        let name : Names s m y r.0 d z = record { object = p; stored = is; refers = r.1 } in
        (r.0, (record { class = d; part = sym (same_kind s e keeps k within (type.Class d)) ∙ t.part; reference = name }, name))

    -- what comes behind a part, for every object below
    abbrev GoesOn : List Name → Type 0
    GoesOn names = (j : ℕ) → (y : Oref) → (p : Obj) → P y → IsAbove s m j x y → get m y ≡ Some p → is_owned_path old (Some p.class) names ≡ true
        → path_value old ours (Some (value_of s m k p)) names ≡ path_value old theirs (Some (value_of s m k p)) names

    into_part : (names : List Name) (j : ℕ) (z : Oref) (d : ℕ) → GoesOn names → P z → IsAbove s m j x z → is_owned_path old (Some d) names ≡ true
        → (o : Option Obj) → get m z ≡ o → IsSomeAnd o (λ p. p.class ≡ d)
        → path_value old ours (ours z) names ≡ path_value old theirs (theirs z) names
    into_part names j z d rest q a h None is c = absurd c
    into_part names j z d rest q a h (Some p) is c =
        ap (λ o. path_value old ours o names) (ours_at z p is)
        ∙ rest j z p q a is (subst (λ n. is_owned_path old (Some n) names ≡ true) (sym c) h)
        ∙ sym (ap (λ o. path_value old theirs o names) (theirs_at z p q is))

    by_part : (names : List Name) (j : ℕ) (y z : Oref) (p : Obj) → GoesOn names → P y → IsAbove s m j x y → get m y ≡ Some p
        → (d : ℕ) → Held old (value_of s m k p) d z → is_owned_path old (Some d) names ≡ true
        → path_value old ours (ours z) names ≡ path_value old theirs (theirs z) names
    by_part names j y z p rest q a is d t h =
        let r = owns y z p d is (low j y p a is) t in
        into_part names (suc j) z d rest (down y r.0 z q r.1.0) (down_one s m j x y z r.0 a r.1.0) h (get m z) refl (declared y r.0 d z r.1.1)

    not_owned : (names : List Name) → is_owned_path old None names ≡ true → ⊥
    not_owned [] h = cc
    not_owned (name ∷ names) h = cc

    by_class : (name : List ℕ) (names : List Name) (j : ℕ) (y z : Oref) (p : Obj) → GoesOn names → P y → IsAbove s m j x y → get m y ≡ Some p
        → field_of_object old (value_of s m k p) name ≡ Some (value.Ref z)
        → (d : Option ℕ) → part_held old p.class name ≡ d → is_owned_path old d names ≡ true
        → path_value old ours (ours z) names ≡ path_value old theirs (theirs z) names
    by_class name names j y z p rest q a is f None t h = absurd (not_owned names h)
    by_class name names j y z p rest q a is f (Some d) t h =
        by_part names j y z p rest q a is d (held old (value_of s m k p) d z name f (ap (λ c. part_held old c name) (value_class s m k p) ∙ t)) h

    by_value : (name : List ℕ) (names : List Name) (j : ℕ) (y : Oref) (p : Obj) → GoesOn names → P y → IsAbove s m j x y → get m y ≡ Some p
        → is_owned_path old (part_held old p.class name) names ≡ true
        → (w : Option Value) → field_of_object old (value_of s m k p) name ≡ w
        → path_value old ours (object_behind ours w) names ≡ path_value old theirs (object_behind theirs w) names
    by_value name names j y p rest q a is h (Some (value.Ref z)) f = by_class name names j y z p rest q a is f (part_held old p.class name) refl h
    by_value name names j y p rest q a is h (Some (value.Int i)) f = nothing_alike old ours theirs names
    by_value name names j y p rest q a is h (Some (value.Text i)) f = nothing_alike old ours theirs names
    by_value name names j y p rest q a is h (Some value.Null) f = nothing_alike old ours theirs names
    by_value name names j y p rest q a is h None f = nothing_alike old ours theirs names

    -- a path through owned fields leads to the same over both maps
    pub path_alike : (names : List Name) → GoesOn names
    path_alike [] j y p q a is h = refl
    path_alike (name ∷ []) j y p q a is h = refl
    path_alike (name ∷ next ∷ names) j y p q a is h =
        by_value name.text (next ∷ names) j y p (path_alike (next ∷ names)) q a is h (field_of_object old (value_of s m k p) name.text) refl

-- ---- one upgrade over two maps

map_same : {X Y : Type 0} (f g : X → Y) (xs : List X) → ((i : ℕ) (x : X) → slice_get xs i ≡ Some x → f x ≡ g x) → map f xs ≡ map g xs
map_same f g [] h = refl
map_same f g (x ∷ xs) h = ap (λ y. y ∷ map f xs) (h zero x refl) ∙ ap (λ ys. g x ∷ ys) (map_same f g xs (λ i y is. h (suc i) y is))

changed : (a : Bool) (w : Option ClassUpgrade) (u : ClassUpgrade) → a ≡ false → w ≡ Some u → (not a && is_some w) ≡ true
changed true w u h g = cc
changed false (Some v) u h g = refl
changed false None u h g = cc

not_passed : (s : Schemas) (e k : ℕ) (o : Obj) (b : Bool) → nat_lt k (level s e o) ≡ b → changes s k o ≡ true → level s e o ≤ k
not_passed s e k o true is h =
    let past : suc k ≤ level s e o = omega (arith, ltb-true k (level s e o) is) in
    let none : changes s k o ≡ false = changes_not s o k (lags_to_level s e (suc k) o past) in
    absurd (true≢false (sym h ∙ none))
not_passed s e k o false is h = ltb-false k (level s e o) is

-- an object that an upgrade changes has its level before it
pub level_before : (s : Schemas) (e k : ℕ) (o : Obj) → changes s k o ≡ true → level s e o ≤ k
level_before s e k o h = not_passed s e k o (nat_lt k (level s e o)) refl h

module _ (s : Schemas) (e : ℕ) (keeps : AllKeepClasses s e) (m n : Objects) (P : Oref → Type 0)
    (same : (y : Oref) → P y → get m y ≡ get n y)
    (down : (y : Oref) (i : ℕ) (z : Oref) → P y → Owns s m y i z → P z)
    (declared : (y : Oref) (i d : ℕ) (z : Oref) → Names s m y i d z → IsSomeAnd (get m z) (λ o. o.class ≡ d))
    (levels : (j : ℕ) (a z : Oref) (o p : Obj) → IsAbove s m (suc j) a z → get m a ≡ Some o → get m z ≡ Some p → p.ver ≤ level s e o) where
  -- below an object that an upgrade changes, and at it, all was written before
  low : (k : ℕ) (x : Oref) (o : Obj) → get m x ≡ Some o → changes s k o ≡ true → o.ver ≤ k
      → (j : ℕ) (y : Oref) (p : Obj) → IsAbove s m j x y → get m y ≡ Some p → p.ver ≤ k
  low k x o is c h zero y p a t =
      let here : get m x ≡ Some p = subst (λ w. get m w ≡ Some p) (sym a) t in
      let one : o ≡ p = cc in
      subst (λ w. w.ver ≤ k) one h
  low k x o is c h (suc j) y p a t = let l = levels j x y o p a is t in let b = level_before s e k o c in omega (arith, l, b)

  abbrev step : ℕ → (Oref → Option Object) → Object → Option ClassUpgrade → Object
  step k objects v w = transformed (classes_of s k) (classes_of s (suc k)) objects v w

  by_fields : (k : ℕ) (v : Object) (u : ClassUpgrade)
      → ((i : ℕ) (f : FieldUpgrade) → slice_get u.fields i ≡ Some f
      → tf_value (classes_of s k) (get (values s m k)) v f.value ≡ tf_value (classes_of s k) (get (values s n k)) v f.value)
      → step k (get (values s m k)) v (Some u) ≡ step k (get (values s n k)) v (Some u)
  by_fields k v u h =
      ap (λ fs. record v { fields = fs })
      (map_same _ _ u.fields (λ i f is. ap (λ w. fitted_or_beginning (type_named (classes_of s (suc k)) f.type_name) w) (h i f is)))

  by_upgrade : (k : ℕ) → k < e → AreSame s e keeps m n P same down declared k → (y : Oref) (o : Obj) → P y → get m y ≡ Some o
      → (a : Bool) → nat_lt k o.ver ≡ a → (w : Option ClassUpgrade) → next_of s k o.class ≡ w
      → cond a (value_of s m k o) (step k (get (values s m k)) (value_of s m k o) w)
      ≡ cond a (value_of s m k o) (step k (get (values s n k)) (value_of s m k o) w)
  by_upgrade k h before y o q is true t w r = refl
  by_upgrade k h before y o q is false t None r = refl
  by_upgrade k h before y o q is false t (Some u) r =
      let within : k ≤ e = omega (arith, h) in
      let early : o.ver ≤ k = ltb-false k o.ver t in
      let c = value_class s m k o in
      let below = low k y o is (changed (nat_lt k o.ver) (next_of s k o.class) u t r) early in
      by_fields k (value_of s m k o) u (λ i f place.
      expression_alike (classes_of s k) (get (values s m k)) (get (values s n k)) (value_of s m k o)
      (λ names owned. path_alike s e keeps m n P same down declared k within y below before names zero y o q refl is
      (subst (λ d. is_owned_path (classes_of s k) (Some d) names ≡ true) c owned))
      f.value
      (subst (λ d. reads_owned (classes_of s k) d f.value ≡ true) (sym c) (((keeps k h).named o.class u r).paths i f place)))

  -- the value of an object is the same over maps that agree on it and on what is below it
  pub value_local : (k : ℕ) → k ≤ e → AreSame s e keeps m n P same down declared k
  unfolding value_of
  value_local zero h y o q is = refl
  value_local (suc k) h y o q is =
      by_upgrade k (omega (arith, h)) (value_local k (omega (arith, h))) y o q is (nat_lt k o.ver) refl (next_of s k o.class) refl
      ∙ ap (λ v. next_value s k (get (values s n k)) o v) (value_local k (omega (arith, h)) y o q is)
