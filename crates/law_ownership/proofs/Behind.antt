-- The writes of a checked transaction leave a map that fits.
use Rattle.class_defs.proofs.Levels.{undue_level}
use Rattle.class_defs.specs.Eager.{eager, value}
use Rattle.class_defs.specs.Epochs.{classes_of}
use Rattle.class_defs.specs.Levels.{level}
use Rattle.class_defs.specs.Ownership.{IsAbove, IsPart, Names, Owns, Refers, type_at}
use Rattle.class_defs.specs.Run.{Ran, changed, run}
use Rattle.class_defs.specs.Stored.{Objects, Stored, all_written, bare, in_epoch}
use Rattle.class_defs.specs.Types.{fields_of, type_named}
use Rattle.class_defs.specs.WellOwned.{AreOfTheirClasses, IsOfItsClass}
use Rattle.class_defs.specs.declared.classes.Class.{Class}
use Rattle.class_defs.specs.declared.classes.Field.{Field}
use Rattle.class_defs.specs.declared.statements.Stmt.{Stmt}
use Rattle.class_defs.specs.declared.store.Object.{Object}
use Rattle.class_defs.specs.declared.store.Plain.{Plain}
use Rattle.class_defs.specs.declared.store.Root.{Root}
use Rattle.class_defs.specs.declared.store.Schema.{Schema}
use Rattle.class_defs.specs.declared.store.Schemas.{Schemas}
use Rattle.class_defs.specs.declared.types.ExprType.TheVariants as type
use Rattle.class_defs.specs.declared.types.ExprType.{ExprType}
use Rattle.law_type_soundness.proofs.FitObjects.{fitted_is}
use Rattle.law_type_soundness.proofs.FitRun.{run_fits}
use Rattle.law_type_soundness.specs.Fits.{FieldsFit, ObjectFits, StoreFits, ValueFits, class_of}
use Rattle.law_lazy_upgrade.proofs.OwnedMaps.{new_level}
use Rattle.law_lazy_upgrade.proofs.Values.{get-each, value_class}
use Rattle.law_ownership.proofs.Closed.{owners_touched, owns_stored, part_at}
use Rattle.law_ownership.proofs.Plainly.{E, classes_are, parts_kept, plain_at, some_and, store_fits, store_fresh, whole_owned}
use Rattle.law_ownership.proofs.Search.{owner_or_none}
use Rattle.law_ownership.specs.Checked.{AreItsWrites, CheckedRun, TouchedUndue}
use Rattle.law_encapsulation.specs.Owning.{KeepsParts, OwnsIn}
use Rattle.std.proofs.Common.{List, [], ap, arith, inl, inr, length, refl, subst, sym, ℕ, zero, suc, ◌<◌, ◌≡◌, ◌≤◌, ◌∙◌, ◌∷◌}
use Rattle.std.proofs.lemmas.Option.{none-some}
use Rattle.std.specs.List.{Contains}
use Rattle.std.specs.Option.{IsSomeAnd, option_and_then, option_map, option_or}
use Rattle.std.specs.Prelude.{None, Option, Some, is_some, slice_get, ◌⊎◌}
use Rattle.law_lazy_history.proofs.Runs.{get-left, ran_changed}
use Rattle.law_lazy_history.specs.Standing.{MapFits, left_at}
use Rattle.thor_value.specs.FiniteMap.{get, overwrite}
use Rattle.thor_value.specs.declared.names.Oref.{Oref}
use Rattle.thor_value.specs.declared.values.Obj.{Obj}
use Rattle.thor_value.specs.declared.values.Value.TheVariants as value_form
use Rattle.thor_value.specs.declared.values.Value.{Value}

none_some : {A X : Type 0} (o : Option X) (v : X) → o ≡ None → o ≡ Some v → A
none_some o v h k = absurd (none-some v (sym h ∙ k))

same_some : {X : Type 0} (x y : X) → ◌≡◌ {A = Option X} (Some x) (Some y) → x ≡ y
same_some x y e = cc

is_so : {X : Type 0} (o : Option X) (P : X → Type 0) (x : X) → o ≡ Some x → P x → IsSomeAnd o P
is_so o P x is p = subst (λ o. IsSomeAnd o P) (sym is) p

-- the field of a value
field_at_value : (f : Oref → Option Object) (classes : List Class) (fs : List Field) (vs : List Value) (i : ℕ) (w : Value) → FieldsFit f classes fs vs → slice_get vs i ≡ Some w
    → (g : Field) × (slice_get fs i ≡ Some g) × ValueFits f (type_named classes g.type_name) w
field_at_value f classes [] [] i w h is = cc
field_at_value f classes [] (u ∷ us) i w h is = absurd h
field_at_value f classes (g ∷ gs) [] i w h is = absurd h
field_at_value f classes (g ∷ gs) (u ∷ us) zero w h is = let e : u ≡ w = cc in (g, refl, subst (λ (x : Value). ValueFits f (type_named classes g.type_name) x) e h.0)
field_at_value f classes (g ∷ gs) (u ∷ us) (suc i) w h is = field_at_value f classes gs us i w h.1 is

fields_count : (f : Oref → Option Object) (classes : List Class) (fs : List Field) (vs : List Value) → FieldsFit f classes fs vs → length vs ≡ length fs
fields_count f classes [] [] h = refl
fields_count f classes [] (u ∷ us) h = absurd h
fields_count f classes (g ∷ gs) [] h = absurd h
fields_count f classes (g ∷ gs) (u ∷ us) h = let e = fields_count f classes gs us h.1 in omega (arith, e)

reference_class : (f : Oref → Option Object) (t : ExprType) (z : Oref) → ValueFits f t (value_form.Ref z) → (d : ℕ) × (t ≡ type.Class d) × (class_of f z ≡ Some d)
reference_class f (type.Class d) z h = (d, refl, h)
reference_class f type.Int z h = absurd h
reference_class f type.Text z h = absurd h
reference_class f type.Null z h = absurd h
reference_class f type.Untold z h = absurd h

module _ (s : Schemas) (N : Stored) (schema : Schema) (repos : ℕ) (tx : List Stmt) (names : List Oref) (r : Ran) (h : CheckedRun s N schema repos tx names r)
    (ws : List (Oref × Obj)) (undue : TouchedUndue s N r) (its : AreItsWrites N r ws) where
  abbrev e : ℕ
  e = N.epoch

  abbrev F : Oref → Option Object
  F = E s N schema repos tx names r h

  abbrev G : Oref → Option Object
  G = get r.store.objects

  abbrev behind : Objects
  behind = overwrite N.objects ws

  abbrev after : Stored
  after = record N { objects = behind }

  keeps : KeepsParts schema (eager s N) r
  keeps = parts_kept s N schema repos tx names r h

  left_fits : StoreFits schema r.store
  left_fits = run_fits schema repos tx (eager s N) names r h.rules h.item (store_fits s N schema repos tx names r h) (store_fresh s N schema repos tx names r h) h.ran

  after_at : (x : Oref) → get behind x ≡ option_or (left_at ws x) (get N.objects x)
  after_at x = get-left x N.objects ws

  store_is : r.store ≡ changed (eager s N) r.written
  store_is = ran_changed s (eager s N) tx names r (ap (λ o. option_and_then (λ k. run k tx (eager s N) names) o) h.epoch ∙ h.ran)

  store_at : (x : Oref) → G x ≡ option_or (left_at r.written x) (F x)
  store_at x = ap (λ (p : Plain). get p.objects x) store_is ∙ get-left x (eager s N).objects r.written

  -- an object that the run wrote
  record Wrote (x : Oref) (o : Obj) : Type 0 where
    v : Object
    is : left_at r.written x ≡ Some v
    now : o ≡ in_epoch e v
    seen : G x ≡ Some v

  -- and one that it left
  record Left (x : Oref) (o : Obj) : Type 0 where
    none : left_at r.written x ≡ None
    there : get N.objects x ≡ Some o

  either : (x : Oref) (o : Obj) → get behind x ≡ Some o → Wrote x o ⊎ Left x o
  either x o is = by (left_at r.written x) refl
    where
      by : (w : Option Object) → left_at r.written x ≡ w → Wrote x o ⊎ Left x o
      by (Some v) at = inl (record {
        v = v;
        is = at;
        now = sym (same_some (in_epoch e v) o (sym (after_at x ∙ ap (λ u. option_or u (get N.objects x)) (its x ∙ ap (option_map (in_epoch e)) at)) ∙ is));
        seen = store_at x ∙ ap (λ u. option_or u (F x)) at;
      })
      by None at = inr (record { none = at; there = sym (after_at x ∙ ap (λ u. option_or u (get N.objects x)) (its x ∙ ap (option_map (in_epoch e)) at)) ∙ is })

  written_at : (x : Oref) (v : Object) → left_at r.written x ≡ Some v → get behind x ≡ Some (in_epoch e v)
  written_at x v at = after_at x ∙ ap (λ u. option_or u (get N.objects x)) (its x ∙ ap (option_map (in_epoch e)) at)

  left_there : (x : Oref) → left_at r.written x ≡ None → get behind x ≡ get N.objects x
  left_there x at = after_at x ∙ ap (λ u. option_or u (get N.objects x)) (its x ∙ ap (option_map (in_epoch e)) at)

  plain_of : (x : Oref) (o : Obj) → get N.objects x ≡ Some o → F x ≡ Some (value s N.objects e o)
  plain_of x o is = plain_at s N schema repos tx names r h x ∙ ap (option_map (value s N.objects e)) is

  plain_none : (x : Oref) → get N.objects x ≡ None → F x ≡ None
  plain_none x is = plain_at s N schema repos tx names r h x ∙ ap (option_map (value s N.objects e)) is

  -- what was there and was written was touched
  touched_if_there : (x : Oref) (v : Object) (o : Obj) → left_at r.written x ≡ Some v → get N.objects x ≡ Some o → Contains r.touched x
  touched_if_there x v o at there = elim (keeps.wrote x (ap is_some at)) [
    | inl k ↦ k
    | inr k ↦ none_some (F x) (value s N.objects e o) k (plain_of x o there)
  ]

  -- an object that was there is there with its class
  class_stays : (x : Oref) (o : Obj) → get N.objects x ≡ Some o → IsSomeAnd (get behind x) (λ p. p.class ≡ o.class)
  class_stays x o there = by (left_at r.written x) refl
    where
      by : (w : Option Object) → left_at r.written x ≡ w → IsSomeAnd (get behind x) (λ p. p.class ≡ o.class)
      by None at = is_so (get behind x) (λ p. p.class ≡ o.class) o (left_there x at ∙ there) refl
      by (Some v) at =
          let k = keeps.kept x (value s N.objects e o) (plain_of x o there) in
          let one : v ≡ k.0 = same_some v k.0 (sym (store_at x ∙ ap (λ u. option_or u (F x)) at) ∙ k.1) in
          is_so (get behind x) (λ p. p.class ≡ o.class) (in_epoch e v) (written_at x v at) (ap (λ (p : Object). p.class) one ∙ k.2 ∙ value_class s N.objects e o)

  -- an object of the store behind is one of the map behind
  class_behind : (x : Oref) (d : ℕ) → class_of G x ≡ Some d → IsSomeAnd (get behind x) (λ p. p.class ≡ d)
  class_behind x d is = by (left_at r.written x) refl
    where
      of : (u : Option Object) (v : Object) → u ≡ Some v → option_map (λ (p : Object). p.class) u ≡ Some d → v.class ≡ d
      of u v at k = same_some v.class d (sym (ap (option_map (λ (p : Object). p.class)) at) ∙ k)

      plain : (o : Option Obj) → get N.objects x ≡ o → left_at r.written x ≡ None → IsSomeAnd (get behind x) (λ p. p.class ≡ d)
      plain None there at = none_some (class_of G x) d (ap (option_map (λ (p : Object). p.class)) (store_at x ∙ ap (λ u. option_or u (F x)) at ∙ plain_none x there)) is
      plain (Some o) there at =
          let seen : G x ≡ Some (value s N.objects e o) = store_at x ∙ ap (λ u. option_or u (F x)) at ∙ plain_of x o there in
          is_so (get behind x) (λ p. p.class ≡ d) o (left_there x at ∙ there) (sym (value_class s N.objects e o) ∙ of (G x) (value s N.objects e o) seen is)

      by : (w : Option Object) → left_at r.written x ≡ w → IsSomeAnd (get behind x) (λ p. p.class ≡ d)
      by (Some v) at = is_so (get behind x) (λ p. p.class ≡ d) (in_epoch e v) (written_at x v at) (of (G x) v (store_at x ∙ ap (λ u. option_or u (F x)) at) is)
      by None at = plain (get N.objects x) refl at

  -- ---- who owns behind the writes

  record NewOwner (a : Oref) (i : ℕ) (z : Oref) : Type 0 where
    v : Object
    is : left_at r.written a ≡ Some v
    own : OwnsIn schema.classes G a i z

  record OldOwner (a : Oref) (i : ℕ) (z : Oref) : Type 0 where
    none : left_at r.written a ≡ None
    own : Owns s N.objects a i z

  owner : (a : Oref) (i : ℕ) (z : Oref) → Owns s behind a i z → NewOwner a i z ⊎ OldOwner a i z
  owner a i z own = elim (either a own.reference.object own.reference.stored) [
    | inl w ↦ inl (record {
      v = w.v;
      is = w.is;
      own = record {
        object = w.v;
        stands = w.seen;
        class = own.class;
        part = part_at s N schema repos tx names r h own.class ∙ own.part;
        refers = subst (λ cs. Refers cs w.v i own.class z) (classes_are s N schema repos tx names r h) (subst (λ (o : Obj). Refers (classes_of s o.ver) (bare o) i own.class z) w.now own.reference.refers);
      };
    })
    | inr l ↦ inr (record { none = l.none; own = record { class = own.class; part = own.part; reference = record { object = own.reference.object; stored = l.there; refers = own.reference.refers } } })
  ]

  -- an owner of what was there
  was_owner : (a : Oref) (i : ℕ) (z : Oref) (o : Obj) → OwnsIn schema.classes G a i z → get N.objects z ≡ Some o → OwnsIn schema.classes F a i z
  was_owner a i z o own there = keeps.old a z i (value s N.objects e o) (plain_of z o there) own

  to_all : (a : Oref) (i : ℕ) (z : Oref) → OwnsIn schema.classes F a i z → Owns s (all_written (eager s N)).objects a i z
  to_all a i z own = record {
    class = own.class;
    part = sym (part_at s N schema repos tx names r h own.class) ∙ own.part;
    reference = record {
      object = in_epoch e own.object;
      stored = get-each (in_epoch e) (eager s N).objects a ∙ ap (option_map (in_epoch e)) own.stands;
      refers = subst (λ cs. Refers cs own.object i own.class z) (sym (classes_are s N schema repos tx names r h)) own.refers;
    };
  }

  old_there : (a : Oref) (i : ℕ) (z : Oref) → Owns s N.objects a i z → (o : Obj) × (get N.objects z ≡ Some o)
  old_there a i z own = let k = some_and (get N.objects z) (λ o. o.class ≡ own.class) (h.fits.owned.declared a i own.class z own.reference) in (k.0, k.1)

  -- a new owner and an old one of the same part
  mixed : {A : Type 0} (a b z : Oref) (i j : ℕ) → NewOwner a i z → OldOwner b j z → A
  mixed a b z i j new old =
      let k = old_there b j z old.own in
      let was = owns_stored s N schema repos tx names r h a i z (was_owner a i z k.0 new.own k.1) in
      let one = h.fits.owned.once a b was.0 j z was.1 old.own in
      none_some (left_at r.written a) new.v (ap (left_at r.written) one.0 ∙ old.none) new.is

  both_new : (a b z : Oref) (i j : ℕ) → NewOwner a i z → NewOwner b j z → (o : Option Obj) → get N.objects z ≡ o → (a ≡ b) × (i ≡ j)
  both_new a b z i j new other None there = keeps.once a b z i j (plain_none z there) new.own other.own
  both_new a b z i j new other (Some o) there = (whole_owned s N schema repos tx names r h).once a b i j z (to_all a i z (was_owner a i z o new.own there)) (to_all b j z (was_owner b j z o other.own there))

  once_by : (a b z : Oref) (i j : ℕ) → NewOwner a i z ⊎ OldOwner a i z → NewOwner b j z ⊎ OldOwner b j z → (a ≡ b) × (i ≡ j)
  once_by a b z i j (inl new) (inl other) = both_new a b z i j new other (get N.objects z) refl
  once_by a b z i j (inl new) (inr old) = mixed a b z i j new old
  once_by a b z i j (inr old) (inl new) = mixed b a z j i new old
  once_by a b z i j (inr old) (inr other) = h.fits.owned.once a b i j z old.own other.own

  once : (a b : Oref) (i j : ℕ) (z : Oref) → Owns s behind a i z → Owns s behind b j z → (a ≡ b) × (i ≡ j)
  once a b i j z own other = once_by a b z i j (owner a i z own) (owner b j z other)

  near_new : (a z : Oref) (i : ℕ) → NewOwner a i z → (o : Option Obj) → get N.objects z ≡ o → a.repo ≡ z.repo
  near_new a z i new None there = keeps.near a z i (plain_none z there) new.own
  near_new a z i new (Some o) there = (whole_owned s N schema repos tx names r h).near a i z (to_all a i z (was_owner a i z o new.own there))

  near : (a : Oref) (i : ℕ) (z : Oref) → Owns s behind a i z → a.repo ≡ z.repo
  near a i z own = elim (owner a i z own) [
    | inl new ↦ near_new a z i new (get N.objects z) refl
    | inr old ↦ h.fits.owned.near a i z old.own
  ]

  -- ---- references

  only_new : (x : Oref) (v : Object) (i : ℕ) (z : Oref) → G x ≡ Some v → slice_get v.fields i ≡ Some (value_form.Ref z) → (d : ℕ) × (type_at schema.classes v.class i ≡ Some (type.Class d)) × (class_of G z ≡ Some d)
  only_new x v i z seen at =
      let g = field_at_value G schema.classes (fields_of schema.classes v.class) v.fields i (value_form.Ref z) (left_fits.each x v seen).fields at in
      let d = reference_class G (type_named schema.classes g.0.type_name) z g.2 in
      (d.0, ap (option_map (λ (f : Field). type_named schema.classes f.type_name)) g.1 ∙ ap Some d.1, d.2)

  only : (x : Oref) (o : Obj) (i : ℕ) (z : Oref) → get behind x ≡ Some o → slice_get o.fields i ≡ Some (value_form.Ref z) → (d : ℕ) × (type_at (classes_of s o.ver) o.class i ≡ Some (type.Class d))
  only x o i z is at = elim (either x o is) [
    | inl w ↦
        let k = only_new x w.v i z w.seen (subst (λ (p : Obj). slice_get p.fields i ≡ Some (value_form.Ref z)) w.now at) in
        (k.0, subst (λ (p : Obj). type_at (classes_of s p.ver) p.class i ≡ Some (type.Class k.0)) (sym w.now) (ap (λ cs. type_at cs w.v.class i) (classes_are s N schema repos tx names r h) ∙ k.1))
    | inr l ↦ h.fits.owned.only x o i z l.there at
  ]

  declared : (a : Oref) (i d : ℕ) (z : Oref) → Names s behind a i d z → IsSomeAnd (get behind z) (λ o. o.class ≡ d)
  declared a i d z names_it = elim (either a names_it.object names_it.stored) [
    | inl w ↦
        let refers : Refers schema.classes w.v i d z = subst (λ cs. Refers cs w.v i d z) (classes_are s N schema repos tx names r h) (subst (λ (o : Obj). Refers (classes_of s o.ver) (bare o) i d z) w.now names_it.refers) in
        let k = only_new a w.v i z w.seen refers.names in
        class_behind z d (k.2 ∙ ap Some (one_class k.0 d (same_some (type.Class k.0) (type.Class d) (sym k.1 ∙ refers.declared))))
    | inr l ↦
        let k = some_and (get N.objects z) (λ o. o.class ≡ d) (h.fits.owned.declared a i d z (record { object = names_it.object; stored = l.there; refers = names_it.refers })) in
        let g = some_and (get behind z) (λ p. p.class ≡ k.0.class) (class_stays z k.0 k.1) in
        is_so (get behind z) (λ o. o.class ≡ d) g.0 g.1 (g.2 ∙ k.2)
  ]
    where
      one_class : (i j : ℕ) → type.Class i ≡ type.Class j → i ≡ j
      one_class i j e = cc

  versions : (x : Oref) (o : Obj) → get behind x ≡ Some o → o.ver ≤ e
  versions x o is = elim (either x o is) [
    | inl w ↦ let same : o.ver ≡ e = ap (λ (p : Obj). p.ver) w.now in omega (arith, same)
    | inr l ↦ h.fits.owned.versions x o l.there
  ]

  roots : (i : ℕ) (q : Root) → slice_get N.roots i ≡ Some q → (¬ IsPart s q.class) × IsSomeAnd (get behind q.oref) (λ o. o.class ≡ q.class)
  roots i q is =
      let k = h.fits.owned.roots i q is in
      let g = some_and (get N.objects q.oref) (λ o. o.class ≡ q.class) k.1 in
      let p = some_and (get behind q.oref) (λ o. o.class ≡ g.0.class) (class_stays q.oref g.0 g.1) in
      (k.0, is_so (get behind q.oref) (λ o. o.class ≡ q.class) p.0 p.1 (p.2 ∙ g.2))

  kinds : AreOfTheirClasses s after
  kinds x o is = elim (either x o is) [
    | inl w ↦ subst (λ (p : Obj). IsOfItsClass (classes_of s p.ver) (bare p)) (sym w.now) (subst (λ cs. IsOfItsClass cs w.v) (sym (classes_are s N schema repos tx names r h)) (of_class x w.v w.seen))
    | inr l ↦ h.fits.kinds x o l.there
  ]
    where
      of_class : (x : Oref) (v : Object) → G x ≡ Some v → IsOfItsClass schema.classes v
      of_class x v seen =
          let fit : ObjectFits G schema.classes v = left_fits.each x v seen in
          record {
            class = fit.class;
            count = fields_count G schema.classes (fields_of schema.classes v.class) v.fields fit.fields;
            kinds = λ i t w at val.
                let g = field_at_value G schema.classes (fields_of schema.classes v.class) v.fields i w fit.fields val in
                let same : type_named schema.classes g.0.type_name ≡ t = same_some (type_named schema.classes g.0.type_name) t (sym (ap (option_map (λ (f : Field). type_named schema.classes f.type_name)) g.1) ∙ at) in
                fitted_is G t w (subst (λ k. ValueFits G k w) same g.2);
          }

  -- ---- levels

  -- above an object that wasn't written all the way up nothing changed, or something touched lies between
  abbrev Down : ℕ → Oref → Oref → Type 0
  Down n a z = (IsAbove s N.objects n a z × (left_at r.written z ≡ None)) ⊎ ((k : ℕ) × (y : Oref) × IsAbove s N.objects k a y × Contains r.touched y)

  down_step : (n : ℕ) (a b z : Oref) (i : ℕ) → left_at r.written a ≡ None → NewOwner a i b ⊎ OldOwner a i b → ((p : Obj) → get N.objects b ≡ Some p → left_at r.written b ≡ None → Down n b z) → Down (suc n) a z
  down_step n a b z i none (inl new) rest = none_some (left_at r.written a) new.v none new.is
  down_step n a b z i none (inr old) rest = by (left_at r.written b) refl
    where
      k : (o : Obj) × (get N.objects b ≡ Some o)
      k = old_there a i b old.own

      lift : Down n b z → Down (suc n) a z
      lift (inl g) = inl ((b, (i, (old.own, g.0))), g.1)
      lift (inr g) = inr (suc g.0, g.1, (b, (i, (old.own, g.2))), g.3)

      by : (w : Option Object) → left_at r.written b ≡ w → Down (suc n) a z
      by (Some v) at = inr (suc zero, b, (b, (i, (old.own, refl))), touched_if_there b v k.0 at k.1)
      by None at = lift (rest k.0 k.1 at)

  down : (n : ℕ) (a z : Oref) (o : Obj) → get N.objects a ≡ Some o → left_at r.written a ≡ None → IsAbove s behind n a z → Down n a z
  down zero a z o there none above = inl (above, subst (λ x. left_at r.written x ≡ None) above none)
  down (suc n) a z o there none above = down_step n a above.0 z above.1.0 none (owner a above.1.0 above.0 above.1.1.0) (λ p at none. down n above.0 z p at none above.1.1.1)

  levels : (n : ℕ) (a z : Oref) (o p : Obj) → IsAbove s behind (suc n) a z → get behind a ≡ Some o → get behind z ≡ Some p → p.ver ≤ level s e o
  levels n a z o p above at there = elim (either a o at) [
    | inl w ↦ at_epoch (new_level s e o (ap (λ (q : Obj). q.ver) w.now))
    | inr l ↦ elim (down (suc n) a z o l.there l.none above) [
      | inl k ↦ h.fits.owned.levels n a z o p k.0 l.there (sym (left_there z k.1) ∙ there)
      | inr k ↦ at_epoch (undue_level s e o (undue a o (owners_touched s N schema repos tx names r h k.0 a k.1 k.3 k.2) l.there))
    ]
  ]
    where
      at_epoch : level s e o ≡ e → p.ver ≤ level s e o
      at_epoch is = let l : p.ver ≤ e = versions z p there in omega (arith, is, l)

  -- ---- going up ends

  back : (n : ℕ) (a z : Oref) (o : Obj) → get N.objects z ≡ Some o → IsAbove s behind n a z → IsAbove s N.objects n a z × ((p : Obj) × (get N.objects a ≡ Some p))
  back zero a z o there above = (above, (o, subst (λ x. get N.objects x ≡ Some o) (sym above) there))
  back (suc n) a z o there above =
      let k = back n above.0 z o there above.1.1.1 in
      elim (owner a above.1.0 above.0 above.1.1.0) [
        | inl new ↦
            let was = owns_stored s N schema repos tx names r h a above.1.0 above.0 (was_owner a above.1.0 above.0 k.1.0 new.own k.1.1) in
            ((above.0, (was.0, (was.1, k.0))), (was.1.reference.object, was.1.reference.stored))
        | inr old ↦ ((above.0, (above.1.0, (old.own, k.0))), (old.own.reference.object, old.own.reference.stored))
      ]

  bottom : (n : ℕ) (a z : Oref) → IsAbove s behind (suc n) a z → (c : Oref) × (i : ℕ) × Owns s behind c i z × IsAbove s behind n a c
  bottom zero a z above = (a, above.1.0, subst (λ x. Owns s behind a above.1.0 x) above.1.1.1 above.1.1.0, refl)
  bottom (suc n) a z above = let k = bottom n above.0 z above.1.1.1 in (k.0, k.1, k.2, (above.0, (above.1.0, (above.1.1.0, k.3))))

  abbrev Ends : Oref → Type 0
  Ends z = (n : ℕ) × ((a : Oref) → ¬ IsAbove s behind n a z)

  ends_old : (z : Oref) (o : Obj) → get N.objects z ≡ Some o → Ends z
  ends_old z o there = let k = h.fits.owned.ends z in (k.0, λ a above. k.1 a (back k.0 a z o there above).0)

  above_owner : (b z : Oref) (i : ℕ) → Owns s behind b i z → Ends b → Ends z
  above_owner b z i own k = (
    suc k.0,
    λ a above.
        let c = bottom k.0 a z above in
        k.1 a (subst (λ x. IsAbove s behind k.0 a x) (once c.0 b c.1 i z c.2 own).0 c.3),
  )

  rank_less : (b z : Oref) (i : ℕ) → get N.objects z ≡ None → get N.objects b ≡ None → NewOwner b i z ⊎ OldOwner b i z → keeps.rank b < keeps.rank z
  rank_less b z i none new (inl o) = keeps.rises b z i (plain_none z none) (plain_none b new) o.own
  rank_less b z i none new (inr o) = none_some (get N.objects b) o.own.reference.object new o.own.reference.stored

  new_step : (k : ℕ) (z : Oref) → get N.objects z ≡ None → keeps.rank z < suc k → ((b : Oref) → get N.objects b ≡ None → keeps.rank b < k → Ends b)
      → ((b : Oref) × (i : ℕ) × Owns s behind b i z) ⊎ ((a : Oref) (i : ℕ) → Owns s behind a i z → ⊥) → Ends z
  new_step k z none l rest (inr nobody) = (suc zero, λ a above. nobody a above.1.0 (subst (λ x. Owns s behind a above.1.0 x) above.1.1.1 above.1.1.0))
  new_step k z none l rest (inl own) = by (get N.objects own.0) refl
    where
      by : (o : Option Obj) → get N.objects own.0 ≡ o → Ends z
      by (Some o) at = above_owner own.0 z own.1 own.2 (ends_old own.0 o at)
      by None at =
          let less = rank_less own.0 z own.1 none at (owner own.0 own.1 z own.2) in
          above_owner own.0 z own.1 own.2 (rest own.0 at (omega (arith, less, l)))

  ends_new : (k : ℕ) (z : Oref) → get N.objects z ≡ None → keeps.rank z < k → Ends z
  ends_new zero z none l = absurd (omega (arith, l))
  ends_new (suc k) z none l = new_step k z none l (λ b new less. ends_new k b new less) (owner_or_none s behind z)

  ends : (z : Oref) → Ends z
  ends z = by (get N.objects z) refl
    where
      by : (o : Option Obj) → get N.objects z ≡ o → Ends z
      by (Some o) at = ends_old z o at
      by None at = ends_new (suc (keeps.rank z)) z at (omega arith)

  pub fits_behind : MapFits s after
  fits_behind = record {
    owned = record {
      versions = versions;
      only = only;
      declared = declared;
      once = once;
      near = near;
      roots = roots;
      ends = ends;
      levels = levels;
    };
    kinds = kinds;
  }
