-- A map is well owned and its objects are of their classes where each name fits, and only there.
use Rattle.class_defs.specs.Epochs.{classes_of}
use Rattle.class_defs.specs.Levels.{level}
use Rattle.class_defs.specs.Ownership.{IsAbove, IsPart, Names, Owns}
use Rattle.class_defs.specs.Rules.{is_part}
use Rattle.class_defs.specs.Stored.{Objects, Stored}
use Rattle.class_defs.specs.WellOwned.{AreOfTheirClasses, IsWellOwned}
use Rattle.class_defs.specs.declared.store.Schemas.{Schemas}
use Rattle.class_defs.specs.declared.types.ExprType.TheVariants as type
use Rattle.store_check.specs.Fits.{IsNamedBy, IsOwnerOf, LeadsTo, IsFitName, IsFitObject, IsFitPart}
use Rattle.std.proofs.Common.{◌≡◌, ◌≤◌, ℕ, zero, suc, Bool, true, false, Option, Some, None, refl, sym, subst, ◌∙◌}
use Rattle.std.proofs.lemmas.Option.{same_Some}
use Rattle.std.specs.Option.{IsSomeAnd}
use Rattle.thor_value.specs.FiniteMap.{get}
use Rattle.thor_value.specs.declared.names.Oref.{Oref}
use Rattle.thor_value.specs.declared.values.Obj.{Obj}

same_class : {c d : ℕ} → Some (type.Class c) ≡ Some (type.Class d) → c ≡ d
same_class h = cc

-- what holds of what an option has
pub at_some : {X : Type 0} (P : X → Type 0) (w : Option X) (p : X) → IsSomeAnd w P → w ≡ Some p → P p
at_some P None p h e = absurd h
at_some P (Some q) p h e = subst P (same_Some _ _ e) h

-- who owns an object names it
pub owns_named : (s : Schemas) (m : Objects) (a x : Oref) (i : ℕ) → Owns s m a i x → IsNamedBy m x a i
owns_named s m a x i h = record { object = h.reference.object; stored = h.reference.stored; names = h.reference.refers.names }

down_one : (s : Schemas) (m : Objects) (n : ℕ) (x y z : Oref) (i : ℕ) → IsAbove s m n x y → Owns s m y i z → IsAbove s m (suc n) x z
down_one s m zero x y z i h o = (z, (i, (subst (λ w. Owns s m w i z) (sym h) o, refl)))
down_one s m (suc n) x y z i h o = (h.0, (h.1.0, (h.1.1.0, down_one s m n h.0 y z i h.1.1.1 o)))

leads_above : (s : Schemas) (m : Objects) (n : ℕ) (x a : Oref) → LeadsTo s m n x a → IsAbove s m n a x
leads_above s m zero x a h = sym h
leads_above s m (suc n) x a h = down_one s m n a h.0 x (h.1.0).field (leads_above s m n h.0 a h.1.1) (h.1.0).owns

leads_on : (s : Schemas) (m : Objects) (n : ℕ) (x b a : Oref) → LeadsTo s m n x b → IsOwnerOf s m b a → LeadsTo s m (suc n) x a
leads_on s m zero x b a h own = (a, (subst (λ w. IsOwnerOf s m w a) (sym h) own, refl))
leads_on s m (suc n) x b a h own = (h.0, (h.1.0, leads_on s m n h.0 b a h.1.1 own))

-- ---- from a well owned map to each name

module _ (s : Schemas) (L : Stored) (owned : IsWellOwned s L) (kinds : AreOfTheirClasses s L) where
  named_as : (a x : Oref) (i : ℕ) (h : IsNamedBy L.objects x a i) → (d : ℕ) × Names s L.objects a i d x
  named_as a x i h =
      let d = owned.only a h.object i x h.stored h.names in
      (d.0, record { object = h.object; stored = h.stored; refers = record { declared = d.1; names = h.names } })

  named_owns : (x : Oref) (o : Obj) → get L.objects x ≡ Some o → IsPart s o.class → (a : Oref) (i : ℕ) → IsNamedBy L.objects x a i → Owns s L.objects a i x
  named_owns x o is part a i h =
      let d = named_as a x i h in
      let c : o.class ≡ d.0 = at_some (λ (q : Obj). q.class ≡ d.0) (get L.objects x) o (owned.declared a i d.0 x d.1) is in
      record { class = d.0; part = subst (IsPart s) c part; reference = d.1 }

  part_fits : (x : Oref) (o : Obj) → get L.objects x ≡ Some o → IsPart s o.class → IsFitPart s L x o
  part_fits x o is part = record {
    owned = named_owns x o is part;
    near = λ a i h. owned.near a i x (named_owns x o is part a i h);
    once = λ a b i j h g. owned.once a b i j x (named_owns x o is part a i h) (named_owns x o is part b j g);
    ends = let e = owned.ends x in (e.0, λ a h. e.1 a (leads_above s L.objects e.0 x a h));
    levels = λ n a p h there. owned.levels n a x p o (leads_above s L.objects (suc n) x a h) there is;
  }

  object_fits : (x : Oref) (o : Obj) → get L.objects x ≡ Some o → IsFitObject s L x o
  unfolding named_as
  object_fits x o is = record {
    version = owned.versions x o is;
    kinds = kinds x o is;
    references = λ i z n. let d = named_as x z i (record { object = o; stored = is; names = n }) in (d.0, d.1.refers.declared, owned.declared x i d.0 z d.1);
    part = part_fits x o is;
  }

  pub each_name_fits : (x : Oref) → IsFitName s L x
  each_name_fits x = record {
    object = object_fits x;
    roots = λ i r is e. let f = owned.roots i r is in record { free = f.0; object = f.1 };
  }

-- ---- and back

module _ (s : Schemas) (L : Stored) (all : (x : Oref) → IsFitName s L x) where
  refers_to : (a z : Oref) (i d : ℕ) → Names s L.objects a i d z → IsSomeAnd (get L.objects z) (λ o. o.class ≡ d)
  refers_to a z i d n =
      let r = ((all a).object n.object n.stored).references i z n.refers.names in
      subst (λ c. IsSomeAnd (get L.objects z) (λ o. o.class ≡ c)) (same_class (sym r.1 ∙ n.refers.declared)) r.2

  owned_part : (a z : Oref) (i : ℕ) → Owns s L.objects a i z → (o : Obj) → get L.objects z ≡ Some o → IsFitPart s L z o
  owned_part a z i h o is =
      let c : o.class ≡ h.class = at_some (λ (q : Obj). q.class ≡ h.class) (get L.objects z) o (refers_to a z i h.class h.reference) is in
      ((all z).object o is).part (subst (IsPart s) (sym c) h.part)

  there : (a z : Oref) (i : ℕ) (P : Type 0) → Owns s L.objects a i z → ((o : Obj) → get L.objects z ≡ Some o → IsFitPart s L z o → P) → P
  there a z i P h f = by_object (get L.objects z) refl
    where
      by_object : (w : Option Obj) → get L.objects z ≡ w → P
      by_object None is = absurd (subst (λ v. IsSomeAnd v (λ o. o.class ≡ h.class)) is (refers_to a z i h.class h.reference))
      by_object (Some o) is = f o is (owned_part a z i h o is)

  sole_owner : (a z : Oref) (i : ℕ) → Owns s L.objects a i z → IsOwnerOf s L.objects z a
  sole_owner a z i h = there a z i (IsOwnerOf s L.objects z a) h (λ o is p. record {
    field = i;
    owns = h;
    near = p.near a i (owns_named s L.objects a z i h);
    alone = λ b j g. p.once b a j i g (owns_named s L.objects a z i h);
  })

  above_leads : (n : ℕ) (a z : Oref) → IsAbove s L.objects n a z → LeadsTo s L.objects n z a
  above_leads zero a z h = sym h
  above_leads (suc n) a z h = leads_on s L.objects n z h.0 a (above_leads n h.0 z h.1.1.1) (sole_owner a h.0 h.1.0 h.1.1.0)

  ends_at : (z : Oref) → (n : ℕ) × ((a : Oref) → ¬ IsAbove s L.objects n a z)
  ends_at z = by_object (get L.objects z) refl
    where
      by_part : (o : Obj) → get L.objects z ≡ Some o → (b : Bool) → is_part (classes_of s 0) (type.Class o.class) ≡ b → (n : ℕ) × ((a : Oref) → ¬ IsAbove s L.objects n a z)
      by_part o is true p = let e = (((all z).object o is).part p).ends in (e.0, λ a h. e.1 a (above_leads e.0 a z h))
      by_part o is false p = (1, λ a h. refused a h.1.0 (subst (λ w. Owns s L.objects a h.1.0 w) h.1.1.1 h.1.1.0))
        where
          refused : (a : Oref) (i : ℕ) → Owns s L.objects a i z → ⊥
          refused a i h =
              let c : o.class ≡ h.class = at_some (λ (q : Obj). q.class ≡ h.class) (get L.objects z) o (refers_to a z i h.class h.reference) is in
              let t : is_part (classes_of s 0) (type.Class o.class) ≡ true = subst (IsPart s) (sym c) h.part in
              let e : true ≡ false = sym t ∙ p in
              cc

      by_object : (w : Option Obj) → get L.objects z ≡ w → (n : ℕ) × ((a : Oref) → ¬ IsAbove s L.objects n a z)
      by_object None is = (
        1,
        λ a h. let o = subst (λ w. Owns s L.objects a h.1.0 w) h.1.1.1 h.1.1.0 in
            absurd (subst (λ v. IsSomeAnd v (λ q. q.class ≡ o.class)) is (refers_to a z h.1.0 o.class o.reference)),
      )
      by_object (Some o) is = by_part o is (is_part (classes_of s 0) (type.Class o.class)) refl

  levels_at : (n : ℕ) (a z : Oref) (o p : Obj) → IsAbove s L.objects (suc n) a z → get L.objects a ≡ Some o → get L.objects z ≡ Some p → p.ver ≤ level s L.epoch o
  levels_at n a z o p h at_a at_z =
      let leads = above_leads (suc n) a z h in
      (owned_part leads.0 z (leads.1.0).field (leads.1.0).owns p at_z).levels n a o leads at_a

  pub well_owned : IsWellOwned s L
  well_owned = record {
    versions = λ x o is. ((all x).object o is).version;
    only = λ x o i z is n. let r = ((all x).object o is).references i z n in (r.0, r.1);
    declared = λ a i d z n. refers_to a z i d n;
    once = λ a b i j z h g. there a z i ((a ≡ b) × (i ≡ j)) h (λ o is p. p.once a b i j (owns_named s L.objects a z i h) (owns_named s L.objects b z j g));
    near = λ a i z h. there a z i (a.repo ≡ z.repo) h (λ o is p. p.near a i (owns_named s L.objects a z i h));
    roots = λ i r is. let f = (all r.oref).roots i r is refl in (f.free, f.object);
    ends = ends_at;
    levels = levels_at;
  }

  pub of_their_classes : AreOfTheirClasses s L
  of_their_classes x o is = ((all x).object o is).kinds
