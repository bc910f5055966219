-- That a map of which each object is one of a well owned map, or such a one brought to its epoch, is well owned.
use Rattle.std.proofs.Common.{◌≡◌, ◌≤◌, arith, ℕ, zero, suc, Option, Some, None, inl, inr, refl, sym, ◌∙◌, subst}
use Rattle.std.specs.Option.{IsSomeAnd}
use Rattle.std.specs.Prelude.{◌⊎◌}
use Rattle.thor_value.specs.FiniteMap.{get}
use Rattle.thor_value.specs.declared.names.Oref.{Oref}
use Rattle.thor_value.specs.declared.values.Obj.{Obj}
use Rattle.law_lazy_upgrade.proofs.Handing.{AreApart}
use Rattle.law_lazy_upgrade.proofs.OfItsClass.{AreDeclared, next_declared, next_kinds}
use Rattle.law_lazy_upgrade.proofs.Shrinking.{along, keeps_apart, shrinks}
use Rattle.class_defs.specs.Eager.{brought, value, values}
use Rattle.class_defs.specs.Epochs.{classes_of, next_of}
use Rattle.class_defs.specs.KeptOwnership.{AllKeepClasses}
use Rattle.class_defs.specs.Levels.{level}
use Rattle.class_defs.specs.Ownership.{IsAbove, Names, Owns, Refers}
use Rattle.class_defs.specs.Stored.{Objects, Stored, bare}
use Rattle.class_defs.specs.WellOwned.{AreOfTheirClasses, IsOfItsClass, IsWellOwned}
use Rattle.class_defs.specs.declared.store.Schemas.{Schemas}

-- the stored object from which one at a name comes
pub record From (s : Schemas) (L : Stored) (a : Oref) (q : Obj) : Type 0 where
  pub object : Obj
  pub stored : get L.objects a ≡ Some object
  pub is : (q ≡ object) ⊎ (q ≡ brought s L object)

-- what follows from what holds of a value that is there
pub is_some_and : {X : Type 0} (o : Option X) (P Q : X → Type 0) → IsSomeAnd o P → ((x : X) → P x → Q x) → IsSomeAnd o Q
is_some_and (Some x) P Q h f = f x h
is_some_and None P Q h f = absurd h

module _ (s : Schemas) (L : Stored) (keeps : AllKeepClasses s L.epoch) (owned : IsWellOwned s L) (n : Objects)
    (back : (a : Oref) (q : Obj) → get n a ≡ Some q → From s L a q)
    (forth : (z : Oref) (o : Obj) → get L.objects z ≡ Some o → IsSomeAnd (get n z) (λ q. q.class ≡ o.class)) where
  -- ---- references

  refers_at : (a : Oref) (q o : Obj) → get L.objects a ≡ Some o → (i d : ℕ) (z : Oref) → Refers (classes_of s q.ver) (bare q) i d z
      → (q ≡ o) ⊎ (q ≡ brought s L o) → (h : ℕ) × Refers (classes_of s o.ver) (bare o) h d z
  refers_at a q o is i d z r (inl e) = (i, subst (λ w. Refers (classes_of s w.ver) (bare w) i d z) e r)
  refers_at a q o is i d z r (inr e) =
      shrinks s L.epoch keeps L.objects o L.epoch (owned.versions a o is) (omega arith) i d z (subst (λ w. Refers (classes_of s w.ver) (bare w) i d z) e r)

  name_from : (a : Oref) (i d : ℕ) (z : Oref) (r : Names s n a i d z) → From s L a r.object → (h : ℕ) × Names s L.objects a h d z
  name_from a i d z r f =
      let p = refers_at a r.object f.object f.stored i d z r.refers f.is in
      (p.0, record { object = f.object; stored = f.stored; refers = p.1 })

  pub names_back : (a : Oref) (i d : ℕ) (z : Oref) → Names s n a i d z → (h : ℕ) × Names s L.objects a h d z
  names_back a i d z r = name_from a i d z r (back a r.object r.stored)

  pub owns_back : (a : Oref) (i : ℕ) (z : Oref) → Owns s n a i z → (h : ℕ) × Owns s L.objects a h z
  owns_back a i z o = let p = names_back a i o.class z o.reference in (p.0, record { class = o.class; part = o.part; reference = p.1 })

  pub above_back : (j : ℕ) (a z : Oref) → IsAbove s n j a z → IsAbove s L.objects j a z
  above_back zero a z h = h
  above_back (suc j) a z h = let p = owns_back a h.1.0 h.0 h.1.1.0 in (h.0, (p.0, (p.1, above_back j h.0 z h.1.1.1)))

  -- ---- one owned field for each part

  apart_stored : (a : Oref) (o : Obj) → get L.objects a ≡ Some o → AreApart s (classes_of s o.ver) (bare o)
  apart_stored a o is i j c d z p q r t =
      (owned.once a a i j z
      (record { class = c; part = p; reference = record { object = o; stored = is; refers = r } })
      (record { class = d; part = q; reference = record { object = o; stored = is; refers = t } })).1

  apart_by : (a : Oref) (q o : Obj) → get L.objects a ≡ Some o → (q ≡ o) ⊎ (q ≡ brought s L o) → AreApart s (classes_of s q.ver) (bare q)
  apart_by a q o is (inl e) = subst (λ w. AreApart s (classes_of s w.ver) (bare w)) (sym e) (apart_stored a o is)
  apart_by a q o is (inr e) =
      subst (λ w. AreApart s (classes_of s w.ver) (bare w)) (sym e)
      (keeps_apart s L.epoch keeps L.objects o (apart_stored a o is) L.epoch (owned.versions a o is) (omega arith))

  apart_at : (a : Oref) (q : Obj) → get n a ≡ Some q → AreApart s (classes_of s q.ver) (bare q)
  apart_at a q is = let f = back a q is in apart_by a q f.object f.stored f.is

  one_field : (a : Oref) (i j : ℕ) (z : Oref) → Owns s n a i z → Owns s n a j z → i ≡ j
  one_field a i j z o p =
      let q : p.reference.object ≡ o.reference.object = some_same (sym p.reference.stored ∙ o.reference.stored) in
      apart_at a o.reference.object o.reference.stored i j o.class p.class z o.part p.part o.reference.refers
      (subst (λ w. Refers (classes_of s w.ver) (bare w) j p.class z) q p.reference.refers)
    where
      some_same : {x y : Obj} → Some x ≡ Some y → x ≡ y
      some_same e = cc

  one_owner : (a b : Oref) (i j : ℕ) (z : Oref) → Owns s n a i z → Owns s n b j z → (a ≡ b) × (i ≡ j)
  one_owner a b i j z o p =
      let f = owns_back a i z o in
      let g = owns_back b j z p in
      let t = owned.once a b f.0 g.0 z f.1 g.1 in
      (t.0, one_field a i j z o (subst (λ w. Owns s n w j z) (sym t.0) p))

  -- ---- the rest

  kept : (z : Oref) (d : ℕ) (o : Option Obj) → get L.objects z ≡ o → IsSomeAnd o (λ w. w.class ≡ d) → IsSomeAnd (get n z) (λ q. q.class ≡ d)
  kept z d None is h = absurd h
  kept z d (Some o) is h = is_some_and (get n z) (λ q. q.class ≡ o.class) (λ q. q.class ≡ d) (forth z o is) (λ q e. e ∙ h)

  version : (a : Oref) (q o : Obj) → get L.objects a ≡ Some o → (q ≡ o) ⊎ (q ≡ brought s L o) → q.ver ≤ L.epoch
  version a q o is (inl e) = subst (λ w. w.ver ≤ L.epoch) (sym e) (owned.versions a o is)
  version a q o is (inr e) = subst (λ w. w.ver ≤ L.epoch) (sym e) (omega arith)

  only_by : (a : Oref) (q o : Obj) → get L.objects a ≡ Some o → (q ≡ o) ⊎ (q ≡ brought s L o) → AreDeclared (classes_of s q.ver) (bare q)
  only_by a q o is (inl e) = subst (λ w. AreDeclared (classes_of s w.ver) (bare w)) (sym e) (λ i z r. owned.only a o i z is r)
  only_by a q o is (inr e) =
      subst (λ w. AreDeclared (classes_of s w.ver) (bare w)) (sym e)
      (along s L.epoch keeps L.objects o AreDeclared (λ i z r. owned.only a o i z is r)
      (λ k b w before. next_declared s k (keeps k b) (get (values s L.objects k)) (value s L.objects k o) (next_of s k (value s L.objects k o).class) refl before)
      L.epoch (owned.versions a o is) (omega arith))

  pub version_at : (a : Oref) (q : Obj) → get n a ≡ Some q → q.ver ≤ L.epoch
  version_at a q is = let f = back a q is in version a q f.object f.stored f.is

  pub still_owned : ((j : ℕ) (a z : Oref) (q p : Obj) → IsAbove s L.objects (suc j) a z → get n a ≡ Some q → get n z ≡ Some p → p.ver ≤ level s L.epoch q)
      → IsWellOwned s (record L { objects = n })
  still_owned levels = record {
    versions = version_at;
    only = λ a q i z is r. let f = back a q is in only_by a q f.object f.stored f.is i z r;
    declared = λ a i d z r. let p = names_back a i d z r in kept z d (get L.objects z) refl (owned.declared a p.0 d z p.1);
    once = one_owner;
    near = λ a i z o. let p = owns_back a i z o in owned.near a p.0 z p.1;
    roots = λ i r is. let p = owned.roots i r is in (p.0, kept r.oref r.class (get L.objects r.oref) refl p.1);
    ends = λ z. let p = owned.ends z in (p.0, λ a h. p.1 a (above_back p.0 a z h));
    levels = λ j a z q p h. levels j a z q p (above_back (suc j) a z h);
  }

  -- ---- kinds

  kinds_by : (a : Oref) (q o : Obj) → get L.objects a ≡ Some o → (q ≡ o) ⊎ (q ≡ brought s L o) → IsOfItsClass (classes_of s o.ver) (bare o)
      → IsOfItsClass (classes_of s q.ver) (bare q)
  kinds_by a q o is (inl e) h = subst (λ w. IsOfItsClass (classes_of s w.ver) (bare w)) (sym e) h
  kinds_by a q o is (inr e) h =
      subst (λ w. IsOfItsClass (classes_of s w.ver) (bare w)) (sym e)
      (along s L.epoch keeps L.objects o IsOfItsClass h
      (λ k b w before. next_kinds s k (keeps k b) (get (values s L.objects k)) (value s L.objects k o) (next_of s k (value s L.objects k o).class) refl before)
      L.epoch (owned.versions a o is) (omega arith))

  pub still_kinds : AreOfTheirClasses s L → AreOfTheirClasses s (record L { objects = n })
  still_kinds h a q is = let f = back a q is in kinds_by a q f.object f.stored f.is (h a f.object f.stored)
