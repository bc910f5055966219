-- That a map stays well owned where its objects are brought, one or all, and where an upgrade is installed.
use Rattle.std.proofs.Common.{◌≡◌, ◌≤◌, ◌+◌, arith, Bool, true, false, cond, not, ℕ, zero, suc, Option, Some, None, option_map, inl, inr, refl, ap, sym, ◌∙◌, subst}
use Rattle.std.proofs.lemmas.Map.Views.{tells_apart}
use Rattle.std.proofs.lemmas.Option.{same_Some}
use Rattle.std.specs.Option.{IsSomeAnd}
use Rattle.thor_value.proofs.FiniteMap.{get-insert}
use Rattle.thor_value.proofs.NameOrders.{oref_exact, oref_total}
use Rattle.thor_value.specs.FiniteMap.{get, insert}
use Rattle.thor_value.specs.Names.{same_oref}
use Rattle.thor_value.specs.declared.names.Oref.{Oref}
use Rattle.thor_value.specs.declared.values.Obj.{Obj}
use Rattle.law_lazy_upgrade.proofs.Owned.{From, is_some_and, owns_back, still_kinds, still_owned, version_at}
use Rattle.class_defs.proofs.Levels.{due_is, greatest_within, lags_early, undue_level}
use Rattle.law_lazy_upgrade.proofs.Values.{get-each, value_class}
use Rattle.class_defs.specs.Eager.{brought, eager, value, values}
use Rattle.class_defs.specs.KeptOwnership.{AllKeepClasses}
use Rattle.class_defs.specs.Levels.{greatest, is_due, lags, level}
use Rattle.class_defs.specs.Ownership.{IsAbove, IsPart, Owns}
use Rattle.class_defs.specs.Stored.{Objects, Stored, all_written, in_epoch}
use Rattle.class_defs.specs.WellOwned.{AreOfTheirClasses, IsWellOwned}
use Rattle.class_defs.specs.declared.store.Schemas.{Schemas}

-- an object that was written in the map's epoch has it as its level
pub new_level : (s : Schemas) (e : ℕ) (q : Obj) → q.ver ≡ e → level s e q ≡ e
new_level s e q h = undue_level s e q (due_is s e q ∙ lags_early s q e (omega (arith, h)))

-- ---- all objects brought

module _ (s : Schemas) (L : Stored) (keeps : AllKeepClasses s L.epoch) (owned : IsWellOwned s L) where
  abbrev all : Objects
  all = (all_written (eager s L)).objects

  all_at : (a : Oref) → get all a ≡ option_map (in_epoch L.epoch) (option_map (value s L.objects L.epoch) (get L.objects a))
  all_at a =
      get-each (in_epoch L.epoch) (values s L.objects L.epoch) a ∙ ap (option_map (in_epoch L.epoch)) (get-each (value s L.objects L.epoch) L.objects a)

  from_all : (a : Oref) (q : Obj) (o : Option Obj) → get L.objects a ≡ o
      → option_map (in_epoch L.epoch) (option_map (value s L.objects L.epoch) o) ≡ Some q → From s L a q
  from_all a q None is h = cc
  from_all a q (Some o) is h = record { object = o; stored = is; is = inr (sym (same_Some _ _ h)) }

  all_back : (a : Oref) (q : Obj) → get all a ≡ Some q → From s L a q
  all_back a q h = from_all a q (get L.objects a) refl (sym (all_at a) ∙ h)

  all_forth : (z : Oref) (o : Obj) → get L.objects z ≡ Some o → IsSomeAnd (get all z) (λ q. q.class ≡ o.class)
  all_forth z o is =
      subst (λ w. IsSomeAnd w (λ q. q.class ≡ o.class))
      (sym (all_at z ∙ ap (λ w. option_map (in_epoch L.epoch) (option_map (value s L.objects L.epoch) w)) is))
      (value_class s L.objects L.epoch o)

  version_of : (q : Obj) (o : Option Obj) → option_map (in_epoch L.epoch) (option_map (value s L.objects L.epoch) o) ≡ Some q → q.ver ≡ L.epoch
  version_of q None h = cc
  version_of q (Some o) h = sym (ap (λ w. w.ver) (same_Some _ _ h))

  all_new : (a : Oref) (q : Obj) → get all a ≡ Some q → q.ver ≡ L.epoch
  all_new a q h = version_of q (get L.objects a) (sym (all_at a) ∙ h)

  pub all_owned : IsWellOwned s (all_written (eager s L))
  all_owned =
      still_owned s L keeps owned all all_back all_forth
      (λ j a z q p h is t. let v = all_new z p t in let w = new_level s L.epoch q (all_new a q is) in omega (arith, v, w))

  pub all_owns : (a : Oref) (i : ℕ) (z : Oref) → Owns s all a i z → (h : ℕ) × Owns s L.objects a h z
  all_owns = owns_back s L keeps owned all all_back all_forth

  pub all_kinds : AreOfTheirClasses s L → AreOfTheirClasses s (all_written (eager s L))
  all_kinds = still_kinds s L keeps owned all all_back all_forth

-- ---- one object brought

module _ (s : Schemas) (L : Stored) (x : Oref) (o : Obj) (keeps : AllKeepClasses s L.epoch) (owned : IsWellOwned s L) (is : get L.objects x ≡ Some o) where
  abbrev one : Objects
  one = insert L.objects x (brought s L o)

  one_at : (y : Oref) (b : Bool) → same_oref y x ≡ b → get one y ≡ cond b (Some (brought s L o)) (get L.objects y)
  one_at y b h = get-insert oref_total L.objects x (brought s L o) y ∙ ap (λ c. cond c (Some (brought s L o)) (get L.objects y)) h

  here : (y : Oref) → same_oref y x ≡ true → get L.objects y ≡ Some o
  here y h = subst (λ w. get L.objects w ≡ Some o) (sym (tells_apart oref_exact y x h)) is

  from_one : (a : Oref) (q : Obj) (b : Bool) → same_oref a x ≡ b → get one a ≡ Some q → From s L a q
  from_one a q true h g = record { object = o; stored = here a h; is = inr (same_Some _ _ (sym g ∙ one_at a true h)) }
  from_one a q false h g = record { object = q; stored = sym (one_at a false h) ∙ g; is = inl refl }

  one_back : (a : Oref) (q : Obj) → get one a ≡ Some q → From s L a q
  one_back a q h = from_one a q (same_oref a x) refl h

  forth_by : (z : Oref) (p : Obj) (b : Bool) → same_oref z x ≡ b → get L.objects z ≡ Some p → IsSomeAnd (get one z) (λ q. q.class ≡ p.class)
  forth_by z p true h g =
      subst (λ w. IsSomeAnd w (λ q. q.class ≡ p.class)) (sym (one_at z true h))
      (value_class s L.objects L.epoch o ∙ ap (λ w. w.class) (same_Some _ _ (sym (here z h) ∙ g)))
  forth_by z p false h g = subst (λ w. IsSomeAnd w (λ q. q.class ≡ p.class)) (sym (one_at z false h ∙ g)) refl

  one_forth : (z : Oref) (p : Obj) → get L.objects z ≡ Some p → IsSomeAnd (get one z) (λ q. q.class ≡ p.class)
  one_forth z p g = forth_by z p (same_oref z x) refl g

  pub one_kinds : AreOfTheirClasses s L → AreOfTheirClasses s (record L { objects = one })
  one_kinds = still_kinds s L keeps owned one one_back one_forth

  module _ (undue : (n : ℕ) (a : Oref) (p : Obj) → IsAbove s L.objects (suc n) a x → get L.objects a ≡ Some p → is_due s L.epoch p ≡ false) where
    -- the object that is brought is of the map's epoch
    brought_level : (a : Oref) (q : Obj) → same_oref a x ≡ true → get one a ≡ Some q → level s L.epoch q ≡ L.epoch
    brought_level a q h g = new_level s L.epoch q (ap (λ w. w.ver) (sym (same_Some _ _ (sym (one_at a true h) ∙ g))))

    level_by : (j : ℕ) (a z : Oref) (q p : Obj) → IsAbove s L.objects (suc j) a z → get one a ≡ Some q → get one z ≡ Some p
        → (b c : Bool) → same_oref a x ≡ b → same_oref z x ≡ c → p.ver ≤ level s L.epoch q
    level_by j a z q p h g t true c k r =
        let l = brought_level a q k g in
        let v = version_at s L keeps owned one one_back one_forth z p t in
        omega (arith, l, v)
    level_by j a z q p h g t false true k r =
        let l = undue_level s L.epoch q (undue j a q (subst (λ w. IsAbove s L.objects (suc j) a w) (tells_apart oref_exact z x r) h) (sym (one_at a false k) ∙ g)) in
        let v : p.ver ≡ L.epoch = ap (λ w. w.ver) (sym (same_Some _ _ (sym (one_at z true r) ∙ t))) in
        omega (arith, l, v)
    level_by j a z q p h g t false false k r = owned.levels j a z q p h (sym (one_at a false k) ∙ g) (sym (one_at z false r) ∙ t)

    pub one_owned : IsWellOwned s (record L { objects = one })
    one_owned = still_owned s L keeps owned one one_back one_forth (λ j a z q p h g t. level_by j a z q p h g t (same_oref a x) (same_oref z x) refl refl)

-- ---- an upgrade installed

level_rises : (e g : ℕ) (b : Bool) → g ≤ e → g ≤ cond b (suc e) g
level_rises e g true h = omega (arith, h)
level_rises e g false h = omega arith

level_next : (s : Schemas) (e : ℕ) (o : Obj) → level s e o ≤ level s (suc e) o
unfolding greatest
level_next s e o = level_rises e (greatest (λ k. not (lags s o k)) e) (not (lags s o (suc e))) (greatest_within (λ k. not (lags s o k)) e)

-- the level of an object doesn't fall where the epoch rises
pub next_level : (s : Schemas) (e : ℕ) (o : Obj) → level s e o ≤ level s (e + 1) o
next_level s e o = let n : suc e ≡ e + 1 = omega arith in subst (λ n. level s e o ≤ level s n o) n (level_next s e o)

pub next_owned : (s : Schemas) (L : Stored) → IsWellOwned s L → IsWellOwned s (record L { epoch = L.epoch + 1 })
next_owned s L owned = record {
  versions = λ x o is. let v = owned.versions x o is in omega (arith, v);
  only = owned.only;
  declared = owned.declared;
  once = owned.once;
  near = owned.near;
  roots = owned.roots;
  ends = owned.ends;
  levels = λ j a z o p h is t. let l = owned.levels j a z o p h is t in let m = next_level s L.epoch o in omega (arith, l, m);
}

-- ---- owners in a well owned map

module _ (s : Schemas) (L : Stored) (owned : IsWellOwned s L) where
  -- at each distance there is one owner at most
  pub one_above : (n : ℕ) (a b z : Oref) → IsAbove s L.objects n a z → IsAbove s L.objects n b z → a ≡ b
  one_above zero a b z h g = h ∙ sym g
  one_above (suc n) a b z h g =
      let e : h.0 ≡ g.0 = one_above n h.0 g.0 z h.1.1.1 g.1.1.1 in
      (owned.once a b h.1.0 g.1.0 g.0 (subst (λ w. Owns s L.objects a h.1.0 w) e h.1.1.0) g.1.1.0).0

  pub near_above : (n : ℕ) (a z : Oref) → IsAbove s L.objects n a z → a.repo ≡ z.repo
  near_above zero a z h = ap (λ w. w.repo) h
  near_above (suc n) a z h = owned.near a h.1.0 h.0 h.1.1.0 ∙ near_above n h.0 z h.1.1.1

  -- what is owned is a part
  pub owned_part : (a : Oref) (i : ℕ) (z : Oref) → Owns s L.objects a i z → IsSomeAnd (get L.objects z) (λ o. IsPart s o.class)
  owned_part a i z o =
      is_some_and (get L.objects z) (λ p. p.class ≡ o.class) (λ p. IsPart s p.class) (owned.declared a i o.class z o.reference)
      (λ p e. subst (λ c. IsPart s c) (sym e) o.part)
