-- That an object or a root passes its test where it fits, and only there.
use Rattle.class_defs.specs.Epochs.{classes_of, no_schema}
use Rattle.class_defs.specs.Ownership.{type_at}
use Rattle.class_defs.specs.Rules.{is_part}
use Rattle.class_defs.specs.Steps.{fitted}
use Rattle.class_defs.specs.Stored.{Objects, bare}
use Rattle.class_defs.specs.Types.{fields_of, type_named}
use Rattle.class_defs.specs.WellOwned.{IsOfItsClass}
use Rattle.class_defs.specs.declared.classes.Class.{Class}
use Rattle.class_defs.specs.declared.store.Root.{Root}
use Rattle.class_defs.specs.declared.store.Schemas.{Schemas}
use Rattle.class_defs.specs.declared.types.ExprType.{ExprType}
use Rattle.class_defs.specs.declared.types.ExprType.TheVariants as type
use Rattle.store_check.proofs.Chains.{go}
use Rattle.store_check.proofs.Summing.{is_kept_so, kept}
use Rattle.store_check.proofs.Walks.{hold_levels, leads_steps, levels_hold, never_ends, none_ends, way_next}
use Rattle.store_check.specs.Fits.{IsFitObject, IsFitPart, IsFitRoot, stored_under}
use Rattle.store_check.specs.Naming.{is_kept, namings, sole}
use Rattle.store_check.specs.Reached.{AreEnded, AreWhole, IsKey}
use Rattle.store_check.specs.Tests.{counted_as, field_fits, fields_fit, is_class, is_counted, is_of_class, kinds_fit, object_fits, part_fits, root_fits, typed_fits, value_fits}
use Rattle.store_check.specs.Ways.{Ways, is_way_for, way, way_or_none}
use Rattle.store_check.specs.declared.ways.Way.{Way}
use Rattle.std.proofs.Common.{◌≡◌, ◌≤◌, ◌<◌, ◌&&◌, ◌⊎◌, ℕ, zero, suc, Bool, true, false, cond, not, List, [], ◌∷◌, length, nat_lt, Option, Some, None, inl, inr, is_some, option_map, refl, sym, ap, subst, slice_get, arith, ◌∙◌}
use Rattle.std.proofs.lemmas.Bool.{eq-eqb, eqb-true, le-leb, leb-true, ltb-false, ltb-true, both_ways}
use Rattle.std.proofs.lemmas.Option.{slice_get_past, slice_get_within, same_Some}
use Rattle.std.specs.Option.{IsSomeAnd}
use Rattle.std.specs.Prelude.{nat_le, unwrap_or}
use Rattle.thor_value.specs.FiniteMap.{get, len}
use Rattle.thor_value.specs.declared.names.Oref.{Oref}
use Rattle.thor_value.specs.declared.values.Obj.{Obj}
use Rattle.thor_value.specs.declared.values.Value.{Value}
use Rattle.thor_value.specs.declared.values.Value.TheVariants as value

some_not_none : {X : Type 0} {x : X} → Some x ≡ None → ⊥
some_not_none h = cc

both_if : (a b : Bool) → cond a b false ≡ true → (a ≡ true) × (b ≡ true)
both_if true b h = (refl, h)
both_if false b h = absurd (both_ways _ refl h)

joint_if : (a b : Bool) → a ≡ true → b ≡ true → cond a b false ≡ true
joint_if true b h g = g
joint_if false b h g = h

-- ---- values

class_is : (w : Option Obj) (c : ℕ) → is_class w c ≡ true → IsSomeAnd w (λ o. o.class ≡ c)
class_is None c h = absurd (both_ways _ refl h)
class_is (Some o) c h = eqb-true o.class c h

is_class_so : (w : Option Obj) (c : ℕ) → IsSomeAnd w (λ o. o.class ≡ c) → is_class w c ≡ true
is_class_so None c h = absurd h
is_class_so (Some o) c h = eq-eqb o.class c h

abbrev RefersWell : Objects → Option ExprType → Oref → Type 0
RefersWell m t z = (d : ℕ) × (t ≡ Some (type.Class d)) × IsSomeAnd (get m z) (λ p. p.class ≡ d)

value_kind : (m : Objects) (t : ExprType) (v : Value) → value_fits m t v ≡ true → fitted t v ≡ v
value_kind m type.Int (value.Int n) h = refl
value_kind m type.Text (value.Int n) h = absurd (both_ways _ refl h)
value_kind m type.Text (value.Text n) h = refl
value_kind m type.Int (value.Text n) h = absurd (both_ways _ refl h)
value_kind m type.Int (value.Ref z) h = absurd (both_ways _ refl h)
value_kind m type.Text (value.Ref z) h = absurd (both_ways _ refl h)
value_kind m type.Int value.Null h = absurd (both_ways _ refl h)
value_kind m type.Text value.Null h = absurd (both_ways _ refl h)
value_kind m type.Null (value.Int n) h = absurd (both_ways _ refl h)
value_kind m type.Null (value.Text n) h = absurd (both_ways _ refl h)
value_kind m type.Null (value.Ref z) h = absurd (both_ways _ refl h)
value_kind m type.Null value.Null h = refl
value_kind m (type.Class c) (value.Int n) h = absurd (both_ways _ refl h)
value_kind m (type.Class c) (value.Text n) h = absurd (both_ways _ refl h)
value_kind m (type.Class c) (value.Ref z) h = refl
value_kind m (type.Class c) value.Null h = refl
value_kind m type.Untold (value.Int n) h = absurd (both_ways _ refl h)
value_kind m type.Untold (value.Text n) h = absurd (both_ways _ refl h)
value_kind m type.Untold (value.Ref z) h = absurd (both_ways _ refl h)
value_kind m type.Untold value.Null h = refl

value_refers : (m : Objects) (t : Option ExprType) (z : Oref) → typed_fits m t (Some (value.Ref z)) ≡ true → RefersWell m t z
value_refers m None z h = absurd (both_ways _ refl h)
value_refers m (Some type.Int) z h = absurd (both_ways _ refl h)
value_refers m (Some type.Text) z h = absurd (both_ways _ refl h)
value_refers m (Some type.Null) z h = absurd (both_ways _ refl h)
value_refers m (Some (type.Class c)) z h = (c, refl, class_is (get m z) c h)
value_refers m (Some type.Untold) z h = absurd (both_ways _ refl h)

class_same : {c d : ℕ} → Some (type.Class c) ≡ Some (type.Class d) → c ≡ d
class_same h = cc

value_passes : (m : Objects) (t : ExprType) (v : Value) → fitted t v ≡ v → ((z : Oref) → v ≡ value.Ref z → RefersWell m (Some t) z) → value_fits m t v ≡ true
value_passes m type.Int (value.Int n) h f = refl
value_passes m type.Text (value.Int n) h f = cc
value_passes m type.Text (value.Text n) h f = refl
value_passes m type.Int (value.Text n) h f = cc
value_passes m type.Int (value.Ref z) h f = cc
value_passes m type.Text (value.Ref z) h f = cc
value_passes m type.Int value.Null h f = cc
value_passes m type.Text value.Null h f = cc
value_passes m type.Null (value.Int n) h f = cc
value_passes m type.Null (value.Text n) h f = cc
value_passes m type.Null (value.Ref z) h f = cc
value_passes m type.Null value.Null h f = refl
value_passes m (type.Class c) (value.Int n) h f = cc
value_passes m (type.Class c) (value.Text n) h f = cc
value_passes m (type.Class c) (value.Ref z) h f =
    let r = f z refl in
    is_class_so (get m z) c (subst (λ d. IsSomeAnd (get m z) (λ p. p.class ≡ d)) (sym (class_same r.1)) r.2)
value_passes m (type.Class c) value.Null h f = refl
value_passes m type.Untold (value.Int n) h f = cc
value_passes m type.Untold (value.Text n) h f = cc
value_passes m type.Untold (value.Ref z) h f = cc
value_passes m type.Untold value.Null h f = refl

-- ---- fields

each_field : (s : Schemas) (m : Objects) (o : Obj) (k : ℕ) → fields_fit s m o k ≡ true → (i : ℕ) → i < k → field_fits s m o i ≡ true
unfolding fields_fit
each_field s m o zero h i low = absurd (omega (arith, low))
each_field s m o (suc k) h i low =
    let t = both_if (field_fits s m o k) (fields_fit s m o k) h in
    by_place (nat_lt i k) refl (λ less. each_field s m o k t.1 i less) t.0
  where
    by_place : (b : Bool) → nat_lt i k ≡ b → (i < k → field_fits s m o i ≡ true) → field_fits s m o k ≡ true → field_fits s m o i ≡ true
    by_place true e before last = before (ltb-true i k e)
    by_place false e before last =
        let high = ltb-false i k e in
        let same : k ≡ i = omega (arith, low, high) in
        subst (λ j. field_fits s m o j ≡ true) same last

all_fields : (s : Schemas) (m : Objects) (o : Obj) (k : ℕ) → ((i : ℕ) → i < k → field_fits s m o i ≡ true) → fields_fit s m o k ≡ true
unfolding fields_fit
all_fields s m o zero h = refl
all_fields s m o (suc k) h = joint_if (field_fits s m o k) (fields_fit s m o k) (h k (omega arith)) (all_fields s m o k (λ i low. h i (omega (arith, low))))

-- ---- objects

abbrev classes_at : Schemas → Obj → List Class
classes_at s o = classes_of s o.ver

counted : (w : Option Class) (o : Obj) → counted_as w o ≡ true → (is_some w ≡ true) × (length o.fields ≡ length (unwrap_or (option_map (λ d. d.fields) w) []))
counted None o h = absurd (both_ways _ refl h)
counted (Some c) o h = (refl, sym (eqb-true (length c.fields) (length o.fields) h))

count_passes : (w : Option Class) (o : Obj) → is_some w ≡ true → length o.fields ≡ length (unwrap_or (option_map (λ d. d.fields) w) []) → counted_as w o ≡ true
count_passes None o h g = absurd (both_ways _ refl h)
count_passes (Some c) o h g = eq-eqb (length c.fields) (length o.fields) (sym g)

typed_kind : (m : Objects) (t : Option ExprType) (w : Option Value) → typed_fits m t w ≡ true → (u : ExprType) (v : Value) → t ≡ Some u → w ≡ Some v → fitted u v ≡ v
typed_kind m None w h u v e g = absurd (some_not_none (sym e))
typed_kind m (Some t) None h u v e g = absurd (some_not_none (sym g))
typed_kind m (Some t) (Some x) h u v e g =
    subst (λ a. fitted a v ≡ v) (same_Some _ _ e) (subst (λ b. fitted t b ≡ b) (same_Some _ _ g) (value_kind m t x h))

-- a list has something at each place within it
item_at : {X : Type 0} (xs : List X) (i : ℕ) → i < length xs → (x : X) × (slice_get xs i ≡ Some x)
item_at [] i low = absurd (omega (arith, low))
item_at (x ∷ xs) zero low = (x, refl)
item_at (x ∷ xs) (suc i) low = item_at xs i (omega (arith, low))

pub record Kinds (s : Schemas) (m : Objects) (o : Obj) : Type 0 where
  pub kinds : IsOfItsClass (classes_of s o.ver) (bare o)
  pub references : (i : ℕ) → (z : Oref) → slice_get o.fields i ≡ Some (value.Ref z)
      → (d : ℕ) × (type_at (classes_of s o.ver) o.class i ≡ Some (type.Class d)) × IsSomeAnd (get m z) (λ p. p.class ≡ d)

kinds_pass : (s : Schemas) (m : Objects) (o : Obj) → kinds_fit s m o ≡ true → Kinds s m o
unfolding is_counted field_fits
kinds_pass s m o h =
    let t = both_if (is_counted s o) (fields_fit s m o (length o.fields)) h in
    let c = counted (slice_get (classes_of s o.ver) o.class) o t.0 in
    let each : (i : ℕ) → i < length o.fields → typed_fits m (type_at (classes_of s o.ver) o.class i) (slice_get o.fields i) ≡ true = each_field s m o (length o.fields) t.1 in
    record {
      kinds = record {
        class = c.0;
        count = c.1;
        kinds = λ i t w e g. typed_kind m (type_at (classes_of s o.ver) o.class i) (slice_get o.fields i) (each i (slice_get_within o.fields i w g)) t w e g;
      };
      references = λ i z g.
          value_refers m (type_at (classes_of s o.ver) o.class i) z
          (subst (λ w. typed_fits m (type_at (classes_of s o.ver) o.class i) w ≡ true) g (each i (slice_get_within o.fields i (value.Ref z) g)));
    }

pass_kinds : (s : Schemas) (m : Objects) (o : Obj) → Kinds s m o → kinds_fit s m o ≡ true
unfolding is_counted field_fits
pass_kinds s m o k =
    joint_if (is_counted s o) (fields_fit s m o (length o.fields))
    (count_passes (slice_get (classes_of s o.ver) o.class) o k.kinds.class k.kinds.count)
    (all_fields s m o (length o.fields) each)
  where
    value_at : (i : ℕ) (t : ExprType) (v : Value) → type_at (classes_of s o.ver) o.class i ≡ Some t → slice_get o.fields i ≡ Some v → value_fits m t v ≡ true
    value_at i t v e g =
        value_passes m t v (k.kinds.kinds i t v e g)
        (λ z is. subst (λ w. RefersWell m w z) e (k.references i z (g ∙ ap Some is)))

    each : (i : ℕ) → i < length o.fields → field_fits s m o i ≡ true
    each i low =
        let f = item_at (fields_of (classes_of s o.ver) o.class) i (omega (arith, low, k.kinds.count)) in
        let v = item_at o.fields i low in
        let t : type_at (classes_of s o.ver) o.class i ≡ Some (type_named (classes_of s o.ver) f.0.type_name) = ap (option_map (λ g. type_named (classes_of s o.ver) g.type_name)) f.1 in
        ap (λ w. typed_fits m w (slice_get o.fields i)) t
        ∙ ap (λ w. typed_fits m (Some (type_named (classes_of s o.ver) f.0.type_name)) w) v.1
        ∙ value_at i (type_named (classes_of s o.ver) f.0.type_name) v.0 t v.1

-- an object whose class is there is of no later epoch than the store
no_classes : (s : Schemas) (k : ℕ) → length s.upgraded < k → classes_of s k ≡ []
no_classes s zero h = absurd (omega (arith, h))
no_classes s (suc k) h = ap (λ w. (unwrap_or (option_map (λ u. u.schema) w) no_schema).classes) (slice_get_past s.upgraded k (omega (arith, h)))

in_time : (s : Schemas) (k c : ℕ) → is_some (slice_get (classes_of s k) c) ≡ true → k ≤ length s.upgraded
in_time s k c h = by_place (nat_lt (length s.upgraded) k) refl
  where
    by_place : (b : Bool) → nat_lt (length s.upgraded) k ≡ b → k ≤ length s.upgraded
    by_place true e =
        let none : is_some (slice_get (classes_of s k) c) ≡ false = ap (λ cs. is_some (slice_get cs c)) (no_classes s k (ltb-true (length s.upgraded) k e)) in
        absurd (both_ways _ none h)
    by_place false e = ltb-false (length s.upgraded) k e

-- ---- parts

both_and : (a b : Bool) → (not a && b) ≡ true → (a ≡ false) × (b ≡ true)
both_and true b h = absurd (both_ways _ refl h)
both_and false b h = (refl, h)

joint_and : (a b : Bool) → a ≡ false → b ≡ true → (not a && b) ≡ true
joint_and true b h g = absurd (both_ways _ h refl)
joint_and false b h g = g

nothing : {X : Type 0} (w : Option X) → is_some w ≡ false → w ≡ None
nothing None h = refl
nothing (Some x) h = absurd (both_ways _ h refl)

module _ (s : Schemas) (m : Objects) (ws : Ways) (whole : AreWhole s m (namings s m) ws) where
  abbrev steps : ℕ
  steps = whole.steps

  way_at : (x : Oref) → IsKey m x → way_or_none (get ws x) ≡ way s m (namings s m) steps x
  way_at x known = ap way_or_none (whole.ways x known)

  part_passes : (roots : List Root) (x : Oref) (o : Obj) → IsKey m x → part_fits (get (namings s m) x) (get ws x) o.ver ≡ true → IsFitPart s (stored_under s m roots) x o
  part_passes roots x o known h =
      let t = both_if (is_kept (get (namings s m) x)) (is_way_for o.ver (way_or_none (get ws x))) h in
      let k = kept s m x t.0 in
      let w = both_and (is_some (way s m (namings s m) steps x).next) (nat_le o.ver (way s m (namings s m) steps x).least) (subst (λ v. is_way_for o.ver v ≡ true) (way_at x known) t.1) in
      let end : go (λ y. sole (get (namings s m) y)) steps x ≡ None = sym (way_next s m steps x) ∙ nothing (way s m (namings s m) steps x).next w.0 in
      let low : o.ver ≤ (way s m (namings s m) steps x).least = leb-true o.ver (way s m (namings s m) steps x).least w.1 in
      record {
        owned = k.owned;
        near = k.near;
        once = k.once;
        ends = (steps, none_ends s m steps x end);
        levels = λ n a p leads is. levels_hold s m steps x o.ver low n (leads_steps s m steps x end n a leads) a p leads is;
      }

  pass_part : (roots : List Root) (x : Oref) (o : Obj) → IsKey m x → o.ver ≤ length s.upgraded → IsFitPart s (stored_under s m roots) x o
      → part_fits (get (namings s m) x) (get ws x) o.ver ≡ true
  pass_part roots x o known low p =
      joint_if (is_kept (get (namings s m) x)) (is_way_for o.ver (way_or_none (get ws x)))
      (is_kept_so s m x (record { owned = p.owned; near = p.near; once = p.once }))
      (subst (λ v. is_way_for o.ver v ≡ true) (sym (way_at x known))
      (joint_and (is_some (way s m (namings s m) steps x).next) (nat_le o.ver (way s m (namings s m) steps x).least)
      (ended_so (way s m (namings s m) steps x).next refl whole.enough)
      (le-leb o.ver (way s m (namings s m) steps x).least (hold_levels s m steps x o.ver low p.levels))))
    where
      ended_so : (w : Option Oref) → (way s m (namings s m) steps x).next ≡ w → AreEnded m ws ⊎ (len m < steps) → is_some (way s m (namings s m) steps x).next ≡ false
      ended_so None e enough = ap is_some e
      ended_so (Some a) e (inl ended) = ap is_some (sym (ap (λ (w : Way). w.next) (way_at x known)) ∙ ended x known)
      ended_so (Some a) e (inr above) = absurd (never_ends s m steps x a above (sym (way_next s m steps x) ∙ e) p.ends.0 p.ends.1)

  -- ---- objects and roots

  pub object_passes : (roots : List Root) (x : Oref) (o : Obj) → IsKey m x
      → object_fits s m (get (namings s m) x) (get ws x) (Some o) ≡ true → IsFitObject s (stored_under s m roots) x o
  object_passes roots x o known h =
      let t = both_if (kinds_fit s m o) (cond (is_part (classes_of s 0) (type.Class o.class)) (part_fits (get (namings s m) x) (get ws x) o.ver) true) h in
      let k = kinds_pass s m o t.0 in
      record {
        version = in_time s o.ver o.class k.kinds.class;
        kinds = k.kinds;
        references = k.references;
        part = λ part. part_passes roots x o known (sym (ap (λ b. cond b (part_fits (get (namings s m) x) (get ws x) o.ver) true) part) ∙ t.1);
      }

  pub pass_object : (roots : List Root) (x : Oref) (o : Obj) → IsKey m x → IsFitObject s (stored_under s m roots) x o
      → object_fits s m (get (namings s m) x) (get ws x) (Some o) ≡ true
  pass_object roots x o known f =
      joint_if (kinds_fit s m o) (cond (is_part (classes_of s 0) (type.Class o.class)) (part_fits (get (namings s m) x) (get ws x) o.ver) true)
      (pass_kinds s m o (record { kinds = f.kinds; references = f.references }))
      (by_kind (is_part (classes_of s 0) (type.Class o.class)) refl)
    where
      by_kind : (b : Bool) → is_part (classes_of s 0) (type.Class o.class) ≡ b → cond b (part_fits (get (namings s m) x) (get ws x) o.ver) true ≡ true
      by_kind true part = pass_part roots x o known f.version (f.part part)
      by_kind false free = refl

pub root_passes : (s : Schemas) (m : Objects) (roots : List Root) (r : Root) → root_fits s m r ≡ true → IsFitRoot s (stored_under s m roots) r
root_passes s m roots r h = by_kind (is_part (classes_of s 0) (type.Class r.class)) refl h
  where
    by_kind : (b : Bool) → is_part (classes_of s 0) (type.Class r.class) ≡ b → cond b false (is_of_class m r.class r.oref) ≡ true → IsFitRoot s (stored_under s m roots) r
    by_kind true part g = absurd (both_ways _ refl g)
    by_kind false free g = record { free = λ part. both_ways _ free part; object = class_is (get m r.oref) r.class g }

pub pass_root : (s : Schemas) (m : Objects) (roots : List Root) (r : Root) → IsFitRoot s (stored_under s m roots) r → root_fits s m r ≡ true
pass_root s m roots r f = by_kind (is_part (classes_of s 0) (type.Class r.class)) refl
  where
    by_kind : (b : Bool) → is_part (classes_of s 0) (type.Class r.class) ≡ b → cond b false (is_of_class m r.class r.oref) ≡ true
    by_kind true part = absurd (f.free part)
    by_kind false free = is_class_so (get m r.oref) r.class f.object
