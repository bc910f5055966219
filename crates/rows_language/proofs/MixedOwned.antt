-- That the small store is well owned as it was found, and no longer where its innermost part is brought first.
use Rattle.std.proofs.Common.{◌≡◌, ◌≤◌, ◌+◌, arith, Bool, true, false, cond, List, [], ◌∷◌, ℕ, zero, suc, Some, is_some, slice_get, inl, inr, refl, ap, sym, ◌∙◌, subst}
use Rattle.std.proofs.lemmas.Map.Views.{tells_apart}
use Rattle.std.proofs.lemmas.Option.{same_Some}
use Rattle.std.specs.BTreeMap.{is_at}
use Rattle.std.specs.Map.{lookup}
use Rattle.std.specs.Option.{IsSomeAnd}
use Rattle.std.specs.Prelude.{◌⊎◌, length, pos}
use Rattle.thor_value.proofs.NameOrders.{oref_exact}
use Rattle.thor_value.specs.FiniteMap.{get}
use Rattle.thor_value.specs.Names.{oref_cmp, same_oref}
use Rattle.thor_value.specs.declared.names.Oref.{Oref}
use Rattle.thor_value.specs.declared.values.Obj.{Obj}
use Rattle.thor_value.specs.declared.values.Value.{Value}
use Rattle.thor_value.specs.declared.values.Value.TheVariants as value
use Rattle.class_defs.specs.Epochs.{classes_of}
use Rattle.class_defs.specs.Levels.{greatest, lags, level}
use Rattle.rows_language.specs.LazyExamples.{a, bring, m, mixed, part, twice, written, z}
use Rattle.class_defs.specs.Ownership.{IsAbove, IsPart, Names, Owns, type_at}
use Rattle.class_defs.specs.Steps.{fitted}
use Rattle.class_defs.specs.Stored.{Stored, bare}
use Rattle.class_defs.specs.Types.{fields_of}
use Rattle.class_defs.specs.WellOwned.{AreOfTheirClasses, IsOfItsClass, IsWellOwned}
use Rattle.class_defs.specs.declared.store.Root.{Root}
use Rattle.class_defs.specs.declared.types.ExprType.{ExprType}
use Rattle.class_defs.specs.declared.types.ExprType.TheVariants as type

-- what holds of each pair of a list holds of the pair that a look-up finds
found : (P : Oref → Obj → Type 0) (x : Oref) (o : Obj) (es : List (Oref × Obj)) → ((i : ℕ) (e : Oref × Obj) → slice_get es i ≡ Some e → P e.0 e.1)
    → lookup (is_at (oref_cmp x)) es ≡ Some o → P x o
found P x o [] all h = cc
found P x o (e ∷ es) all h = by_key (same_oref x e.0) refl h (λ rest. found P x o es (λ i f g. all (suc i) f g) rest)
  where
    by_key : (b : Bool) → same_oref x e.0 ≡ b → cond b (Some e.1) (lookup (is_at (oref_cmp x)) es) ≡ Some o
        → (lookup (is_at (oref_cmp x)) es ≡ Some o → P x o) → P x o
    by_key true is g rest = subst (λ w. P w o) (sym (tells_apart oref_exact x e.0 is)) (subst (P e.0) (same_Some _ _ g) (all zero e refl))
    by_key false is g rest = rest g

-- ---- the references that there are

-- a names m, and m names z
abbrev AreKnown : Oref → Obj → Type 0
AreKnown x o = (i : ℕ) → (w : Oref) → slice_get o.fields i ≡ Some (value.Ref w)
    → ((x ≡ a) × ((i ≡ 1) × ((w ≡ m) × (o ≡ written 0 0 (value.Int (pos 0) ∷ value.Ref m ∷ [])))))
    ⊎ ((x ≡ m) × ((i ≡ 0) × ((w ≡ z) × (o ≡ written 1 0 (value.Ref z ∷ [])))))

ref : {v w : Oref} → Some (value.Ref v) ≡ Some (value.Ref w) → v ≡ w
ref h = cc

of_a : AreKnown a (written 0 0 (value.Int (pos 0) ∷ value.Ref m ∷ []))
of_a zero w h = cc
of_a (suc zero) w h = inl (refl, (refl, (sym (ref h), refl)))
of_a (suc (suc i)) w h = cc

of_m : AreKnown m (written 1 0 (value.Ref z ∷ []))
of_m zero w h = inr (refl, (refl, (sym (ref h), refl)))
of_m (suc i) w h = cc

none_of_one : (x : Oref) (c v : ℕ) (n : ℕ) → AreKnown x (written c v (value.Int (pos n) ∷ []))
none_of_one x c v n zero w h = cc
none_of_one x c v n (suc i) w h = cc

of_lone : (x : Oref) → AreKnown x (written 0 0 (value.Int (pos 5) ∷ value.Null ∷ []))
of_lone x zero w h = cc
of_lone x (suc zero) w h = cc
of_lone x (suc (suc i)) w h = cc

-- a pair among those of the map
pair : (P : Oref → Obj → Type 0) {e f : Oref × Obj} → Some e ≡ Some f → P e.0 e.1 → P f.0 f.1
pair P h p = subst (λ g. P g.0 g.1) (same_Some _ _ h) p

known_at : (i : ℕ) (e : Oref × Obj) → slice_get mixed.objects.pairs i ≡ Some e → AreKnown e.0 e.1
known_at zero e h = pair AreKnown h of_a
known_at (suc zero) e h = pair AreKnown h of_m
known_at (suc (suc zero)) e h = pair AreKnown h (none_of_one z 2 0 7)
known_at (suc (suc (suc zero))) e h = pair AreKnown h (of_lone _)
known_at (suc (suc (suc (suc zero)))) e h = pair AreKnown h (none_of_one _ 3 0 4)
known_at (suc (suc (suc (suc (suc zero))))) e h = pair AreKnown h (none_of_one _ 3 1 6)
known_at (suc (suc (suc (suc (suc (suc zero)))))) e h = pair AreKnown h (none_of_one _ 4 0 3)
known_at (suc (suc (suc (suc (suc (suc (suc i))))))) e h = cc

known : (x : Oref) (o : Obj) → get mixed.objects x ≡ Some o → AreKnown x o
known x o = found AreKnown x o mixed.objects.pairs known_at

-- ---- well owned

-- whose field names what
abbrev Edge : Oref → ℕ → ℕ → Oref → Type 0
Edge x i d w = ((x ≡ a) × ((i ≡ 1) × ((w ≡ m) × (d ≡ 1)))) ⊎ ((x ≡ m) × ((i ≡ 0) × ((w ≡ z) × (d ≡ 2))))

class_is : {c d : ℕ} → Some (type.Class c) ≡ Some (type.Class d) → d ≡ c
class_is h = cc

edge_of : (x : Oref) (o : Obj) (i d : ℕ) (w : Oref) → type_at (classes_of twice o.ver) o.class i ≡ Some (type.Class d)
    → ((x ≡ a) × ((i ≡ 1) × ((w ≡ m) × (o ≡ written 0 0 (value.Int (pos 0) ∷ value.Ref m ∷ []))))) ⊎ ((x ≡ m) × ((i ≡ 0) × ((w ≡ z) × (o ≡ written 1 0 (value.Ref z ∷ [])))))
    → Edge x i d w
edge_of x o i d w t (inl h) =
    inl (
      h.0,
      (
        h.1.0,
        (
          h.1.1.0,
          class_is (subst (λ j. type_at (classes_of twice 0) 0 j ≡ Some (type.Class d)) h.1.0
              (subst (λ q. type_at (classes_of twice q.ver) q.class i ≡ Some (type.Class d)) h.1.1.1 t)),
        ),
      ),
    )
edge_of x o i d w t (inr h) =
    inr (
      h.0,
      (
        h.1.0,
        (
          h.1.1.0,
          class_is (subst (λ j. type_at (classes_of twice 0) 1 j ≡ Some (type.Class d)) h.1.0
              (subst (λ q. type_at (classes_of twice q.ver) q.class i ≡ Some (type.Class d)) h.1.1.1 t)),
        ),
      ),
    )

edge : (x : Oref) (i d : ℕ) (w : Oref) → Names twice mixed.objects x i d w → Edge x i d w
edge x i d w n = edge_of x n.object i d w n.refers.declared (known x n.object n.stored i w n.refers.names)

owner_edge : (x : Oref) (i : ℕ) (w : Oref) (o : Owns twice mixed.objects x i w) → Edge x i o.class w
owner_edge x i w o = edge x i o.class w o.reference

apart : m ≡ z → ⊥
apart h = let e : 1 ≡ 2 = ap (λ (w : Oref). w.slot) h in absurd (omega (arith, e))

once_by : (x y : Oref) (i j c d : ℕ) (w : Oref) → Edge x i c w → Edge y j d w → (x ≡ y) × (i ≡ j)
once_by x y i j c d w (inl h) (inl g) = (h.0 ∙ sym g.0, h.1.0 ∙ sym g.1.0)
once_by x y i j c d w (inr h) (inr g) = (h.0 ∙ sym g.0, h.1.0 ∙ sym g.1.0)
once_by x y i j c d w (inl h) (inr g) = absurd (apart (sym h.1.1.0 ∙ g.1.1.0))
once_by x y i j c d w (inr h) (inl g) = absurd (apart (sym g.1.1.0 ∙ h.1.1.0))

declared_by : (x : Oref) (i d : ℕ) (w : Oref) → Edge x i d w → IsSomeAnd (get mixed.objects w) (λ o. o.class ≡ d)
declared_by x i d w (inl h) = subst (λ v. IsSomeAnd (get mixed.objects v) (λ o. o.class ≡ d)) (sym h.1.1.0) (sym h.1.1.1)
declared_by x i d w (inr h) = subst (λ v. IsSomeAnd (get mixed.objects v) (λ o. o.class ≡ d)) (sym h.1.1.0) (sym h.1.1.1)

near_by : (x : Oref) (i d : ℕ) (w : Oref) → Edge x i d w → x.repo ≡ w.repo
near_by x i d w (inl h) = ap (λ v. v.repo) h.0 ∙ sym (ap (λ v. v.repo) h.1.1.0)
near_by x i d w (inr h) = ap (λ v. v.repo) h.0 ∙ sym (ap (λ v. v.repo) h.1.1.0)

only_by : (x : Oref) (o : Obj) (i : ℕ) (w : Oref)
    → ((x ≡ a) × ((i ≡ 1) × ((w ≡ m) × (o ≡ written 0 0 (value.Int (pos 0) ∷ value.Ref m ∷ []))))) ⊎ ((x ≡ m) × ((i ≡ 0) × ((w ≡ z) × (o ≡ written 1 0 (value.Ref z ∷ [])))))
    → (d : ℕ) × (type_at (classes_of twice o.ver) o.class i ≡ Some (type.Class d))
only_by x o i w (inl h) = (
  1,
  subst (λ q. type_at (classes_of twice q.ver) q.class i ≡ Some (type.Class 1)) (sym h.1.1.1)
      (subst (λ j. type_at (classes_of twice 0) 0 j ≡ Some (type.Class 1)) (sym h.1.0) refl),
)
only_by x o i w (inr h) = (
  2,
  subst (λ q. type_at (classes_of twice q.ver) q.class i ≡ Some (type.Class 2)) (sym h.1.1.1)
      (subst (λ j. type_at (classes_of twice 0) 1 j ≡ Some (type.Class 2)) (sym h.1.0) refl),
)

-- slots rise from owner to part, up to 2
rises : (x : Oref) (i d : ℕ) (w : Oref) → Edge x i d w → (x.slot + 1 ≡ w.slot) × (w.slot ≤ 2)
rises x i d w (inl h) =
    let p : x.slot ≡ 0 = ap (λ v. v.slot) h.0 in
    let q : w.slot ≡ 1 = ap (λ v. v.slot) h.1.1.0 in
    (omega (arith, p, q), omega (arith, q))
rises x i d w (inr h) =
    let p : x.slot ≡ 1 = ap (λ v. v.slot) h.0 in
    let q : w.slot ≡ 2 = ap (λ v. v.slot) h.1.1.0 in
    (omega (arith, p, q), omega (arith, q))

slots : (n : ℕ) (x y : Oref) → IsAbove twice mixed.objects (suc n) x y → (x.slot + suc n ≡ y.slot) × (y.slot ≤ 2)
slots zero x y h =
    let p = rises x h.1.0 h.1.1.0.class h.0 (owner_edge x h.1.0 h.0 h.1.1.0) in
    let e : h.0.slot ≡ y.slot = ap (λ v. v.slot) h.1.1.1 in
    (omega (arith, p.0, e), omega (arith, p.1, e))
slots (suc n) x y h =
    let p = rises x h.1.0 h.1.1.0.class h.0 (owner_edge x h.1.0 h.0 h.1.1.0) in
    let q = slots n h.0 y h.1.1.1 in
    (omega (arith, p.0, q.0), q.1)

-- what is owned was written in epoch 0
first_at : (i : ℕ) (e : Oref × Obj) → slice_get mixed.objects.pairs i ≡ Some e → (e.0.slot ≤ 2 → e.1.ver ≡ 0)
first_at zero e h = pair (λ x o. x.slot ≤ 2 → o.ver ≡ 0) h (λ l. refl)
first_at (suc zero) e h = pair (λ x o. x.slot ≤ 2 → o.ver ≡ 0) h (λ l. refl)
first_at (suc (suc zero)) e h = pair (λ x o. x.slot ≤ 2 → o.ver ≡ 0) h (λ l. refl)
first_at (suc (suc (suc zero))) e h = pair (λ x o. x.slot ≤ 2 → o.ver ≡ 0) h (λ l. refl)
first_at (suc (suc (suc (suc zero)))) e h = pair (λ x o. x.slot ≤ 2 → o.ver ≡ 0) h (λ l. refl)
first_at (suc (suc (suc (suc (suc zero))))) e h = pair (λ x o. x.slot ≤ 2 → o.ver ≡ 0) h (λ l. absurd (omega (arith, l)))
first_at (suc (suc (suc (suc (suc (suc zero)))))) e h = pair (λ x o. x.slot ≤ 2 → o.ver ≡ 0) h (λ l. refl)
first_at (suc (suc (suc (suc (suc (suc (suc i))))))) e h = cc

version_at : (i : ℕ) (e : Oref × Obj) → slice_get mixed.objects.pairs i ≡ Some e → e.1.ver ≤ 2
version_at zero e h = pair (λ x o. o.ver ≤ 2) h (omega arith)
version_at (suc zero) e h = pair (λ x o. o.ver ≤ 2) h (omega arith)
version_at (suc (suc zero)) e h = pair (λ x o. o.ver ≤ 2) h (omega arith)
version_at (suc (suc (suc zero))) e h = pair (λ x o. o.ver ≤ 2) h (omega arith)
version_at (suc (suc (suc (suc zero)))) e h = pair (λ x o. o.ver ≤ 2) h (omega arith)
version_at (suc (suc (suc (suc (suc zero))))) e h = pair (λ x o. o.ver ≤ 2) h (omega arith)
version_at (suc (suc (suc (suc (suc (suc zero)))))) e h = pair (λ x o. o.ver ≤ 2) h (omega arith)
version_at (suc (suc (suc (suc (suc (suc (suc i))))))) e h = cc

pub mixed_owned : IsWellOwned twice mixed
mixed_owned = record {
  versions = λ x o is. found (λ x o. o.ver ≤ 2) x o mixed.objects.pairs version_at is;
  only = λ x o i w is h. only_by x o i w (known x o is i w h);
  declared = λ x i d w n. declared_by x i d w (edge x i d w n);
  once = λ x y i j w o p. once_by x y i j o.class p.class w (owner_edge x i w o) (owner_edge y j w p);
  near = λ x i w o. near_by x i o.class w (owner_edge x i w o);
  roots = λ i r h. no_root i r h;
  ends = λ y. (3, λ x h. let p = slots 2 x y h in absurd (omega (arith, p.0, p.1)));
  levels = λ n x y o p h is t.
      let s = slots n x y h in
      let v = found (λ x o. x.slot ≤ 2 → o.ver ≡ 0) y p mixed.objects.pairs first_at t s.1 in
      omega (arith, v);
}
  where
    no_root : (i : ℕ) (r : Root) → slice_get mixed.roots i ≡ Some r
        → (¬ IsPart twice r.class) × IsSomeAnd (get mixed.objects r.oref) (λ o. o.class ≡ r.class)
    no_root i r h = cc

-- ---- kinds

type_is : {t u : ExprType} → Some t ≡ Some u → t ≡ u
type_is h = cc

value_is : {v w : Value} → Some v ≡ Some w → v ≡ w
value_is h = cc

fits : (t u : ExprType) (v w : Value) → fitted t v ≡ v → Some t ≡ Some u → Some v ≡ Some w → fitted u w ≡ w
fits t u v w h p q = subst (λ k. fitted k w ≡ w) (type_is p) (subst (λ x. fitted t x ≡ x) (value_is q) h)

abbrev IsKind : Oref → Obj → Type 0
IsKind x o = IsOfItsClass (classes_of twice o.ver) (bare o)

one_number : (c v n : ℕ) → is_some (slice_get (classes_of twice v) c) ≡ true → type_at (classes_of twice v) c 0 ≡ Some type.Int
    → length (fields_of (classes_of twice v) c) ≡ 1
    → IsOfItsClass (classes_of twice v) (bare (written c v (value.Int (pos n) ∷ [])))
one_number c v n there t l = record { class = there; count = sym l; kinds = kinds }
  where
    kinds : (i : ℕ) (u : ExprType) (w : Value) → type_at (classes_of twice v) c i ≡ Some u → slice_get (value.Int (pos n) ∷ []) i ≡ Some w
        → fitted u w ≡ w
    kinds zero u w h g = fits type.Int u (value.Int (pos n)) w refl (sym t ∙ h) g
    kinds (suc i) u w h g = cc

an_a : (n : ℕ) (r : Value) → fitted (type.Class 1) r ≡ r → IsOfItsClass (classes_of twice 0) (bare (written 0 0 (value.Int (pos n) ∷ r ∷ [])))
an_a n r k = record { class = refl; count = refl; kinds = kinds }
  where
    kinds : (i : ℕ) (u : ExprType) (w : Value) → type_at (classes_of twice 0) 0 i ≡ Some u → slice_get (value.Int (pos n) ∷ r ∷ []) i ≡ Some w
        → fitted u w ≡ w
    kinds zero u w h g = fits type.Int u (value.Int (pos n)) w refl h g
    kinds (suc zero) u w h g = fits (type.Class 1) u r w k h g
    kinds (suc (suc i)) u w h g = cc

an_m : IsOfItsClass (classes_of twice 0) (bare (written 1 0 (value.Ref z ∷ [])))
an_m = record { class = refl; count = refl; kinds = kinds }
  where
    kinds : (i : ℕ) (u : ExprType) (w : Value) → type_at (classes_of twice 0) 1 i ≡ Some u → slice_get (value.Ref z ∷ []) i ≡ Some w → fitted u w ≡ w
    kinds zero u w h g = fits (type.Class 2) u (value.Ref z) w refl h g
    kinds (suc i) u w h g = cc

kind_at : (i : ℕ) (e : Oref × Obj) → slice_get mixed.objects.pairs i ≡ Some e → IsKind e.0 e.1
kind_at zero e h = pair IsKind h (an_a 0 (value.Ref m) refl)
kind_at (suc zero) e h = pair IsKind h an_m
kind_at (suc (suc zero)) e h = pair IsKind h (one_number 2 0 7 refl refl refl)
kind_at (suc (suc (suc zero))) e h = pair IsKind h (an_a 5 value.Null refl)
kind_at (suc (suc (suc (suc zero)))) e h = pair IsKind h (one_number 3 0 4 refl refl refl)
kind_at (suc (suc (suc (suc (suc zero))))) e h = pair IsKind h (one_number 3 1 6 refl refl refl)
kind_at (suc (suc (suc (suc (suc (suc zero)))))) e h = pair IsKind h (one_number 4 0 3 refl refl refl)
kind_at (suc (suc (suc (suc (suc (suc (suc i))))))) e h = cc

pub mixed_kinds : AreOfTheirClasses twice mixed
mixed_kinds x o is = found IsKind x o mixed.objects.pairs kind_at is

-- ---- the part brought first

abbrev early : Stored
early = bring z part mixed

m_owns : Owns twice early.objects m 0 z
m_owns = record { class = 2; part = refl; reference = record { object = written 1 0 (value.Ref z ∷ []); stored = refl; refers = record { declared = refl; names = refl } } }

a_owns : Owns twice early.objects a 1 m
a_owns = record {
  class = 1;
  part = refl;
  reference = record { object = written 0 0 (value.Int (pos 0) ∷ value.Ref m ∷ []); stored = refl; refers = record { declared = refl; names = refl } };
}

a_level : level twice 2 (written 0 0 (value.Int (pos 0) ∷ value.Ref m ∷ [])) ≡ 0
unfolding greatest lags
a_level = refl

pub part_first : ¬ IsWellOwned twice early
part_first owned =
    let l = owned.levels 1 a z (written 0 0 (value.Int (pos 0) ∷ value.Ref m ∷ [])) _ (m, (1, (a_owns, (z, (0, (m_owns, refl)))))) refl refl in
    absurd (omega (arith, l, a_level))
