-- What the notes on how objects are named say of one object.
use Rattle.class_defs.specs.Epochs.{classes_of}
use Rattle.class_defs.specs.Ownership.{IsPart, Owns, type_at}
use Rattle.class_defs.specs.Stored.{Objects}
use Rattle.class_defs.specs.declared.store.Schemas.{Schemas}
use Rattle.class_defs.specs.declared.types.ExprType.{ExprType}
use Rattle.class_defs.specs.declared.types.ExprType.TheVariants as type
use Rattle.store_check.specs.Fits.{IsNamedBy, IsOwnerOf}
use Rattle.store_check.specs.Naming.{Namings, is_kept, is_owned_field, is_part_type, joined, namings, noted, noted_fields, noted_name, noted_object, sole}
use Rattle.store_check.specs.declared.naming.Naming.{Naming}
use Rattle.store_check.specs.declared.naming.Naming.TheVariants.{Once, Several}
use Rattle.std.proofs.Common.{◌≡◌, ◌⊎◌, ◌<◌, ◌&&◌, ◌||◌, ◌==◌, ℕ, zero, suc, Bool, true, false, cond, List, [], ◌∷◌, length, Option, Some, None, inl, inr, is_some, refl, sym, ap, subst, slice_get, nat_lt, arith, ◌∙◌}
use Rattle.std.proofs.lemmas.Bool.{eqb-true, ltb-false, ltb-true, and_from, and_parts, both_ways, or_cases}
use Rattle.std.proofs.lemmas.Cmp.{tied_itself}
use Rattle.std.proofs.lemmas.Map.Made.{is_some-lookup}
use Rattle.std.proofs.lemmas.Map.Views.{tells_apart}
use Rattle.std.proofs.lemmas.Option.{slice_get_within, same_Some}
use Rattle.std.specs.List.{fold, list_any}
use Rattle.std.specs.Ordering.{is_eq}
use Rattle.thor_value.proofs.FiniteMap.{get-insert}
use Rattle.thor_value.proofs.NameOrders.{oref_exact, oref_total}
use Rattle.thor_value.specs.FiniteMap.{empty, get, keys}
use Rattle.thor_value.specs.Names.{same_oref}
use Rattle.thor_value.specs.declared.names.Oref.{Oref}
use Rattle.thor_value.specs.declared.values.Obj.{Obj}
use Rattle.thor_value.specs.declared.values.Value.{Value}
use Rattle.thor_value.specs.declared.values.Value.TheVariants as value

pub same_itself : (x : Oref) → same_oref x x ≡ true
same_itself x = ap is_eq (tied_itself oref_total x)

same_number : (i : ℕ) → (i == i) ≡ true
same_number i = search arith

-- ---- an owned field

part_found : (s : Schemas) (t : Option ExprType) → is_part_type s t ≡ true → (d : ℕ) × (t ≡ Some (type.Class d)) × IsPart s d
part_found s None h = absurd (both_ways _ refl h)
part_found s (Some (type.Class d)) h = (d, refl, h)
part_found s (Some type.Int) h = absurd (both_ways _ refl h)
part_found s (Some type.Text) h = absurd (both_ways _ refl h)
part_found s (Some type.Null) h = absurd (both_ways _ refl h)
part_found s (Some type.Untold) h = absurd (both_ways _ refl h)

same_object : {w : Option Obj} {o p : Obj} → w ≡ Some o → w ≡ Some p → o ≡ p
same_object h g = same_Some _ _ (sym h ∙ g)

module _ (s : Schemas) (m : Objects) (x : Oref) where
  owned_owns : (a : Oref) (i : ℕ) (h : IsNamedBy m x a i) → is_owned_field s h.object i ≡ true → Owns s m a i x
  unfolding is_owned_field
  owned_owns a i h is =
      let d = part_found s _ is in
      record { class = d.0; part = d.2; reference = record { object = h.object; stored = h.stored; refers = record { declared = d.1; names = h.names } } }

  owns_owned : (a : Oref) (i : ℕ) (o : Obj) → get m a ≡ Some o → Owns s m a i x → is_owned_field s o i ≡ true
  unfolding is_owned_field
  owns_owned a i o is h =
      let e : h.reference.object ≡ o = same_object h.reference.stored is in
      let d : type_at (classes_of s o.ver) o.class i ≡ Some (type.Class h.class) = subst (λ p. type_at (classes_of s p.ver) p.class i ≡ Some (type.Class h.class)) e h.reference.refers.declared in
      ap (is_part_type s) d ∙ h.part

  -- ---- what the notes say

  pub record NamedOnce (P : Oref → ℕ → Type 0) (b : Oref) (j : ℕ) (known : Bool) : Type 0 where
    pub named : IsNamedBy m x b j
    pub owned : (o : Obj) → get m b ≡ Some o → known ≡ (is_owned_field s o j && (b.repo == x.repo))
    pub only : (a : Oref) → (i : ℕ) → P a i → IsNamedBy m x a i → (a ≡ b) × (i ≡ j)

  pub record NamedTwice : Type 0 where
    pub a : Oref
    pub b : Oref
    pub i : ℕ
    pub j : ℕ
    pub first : IsNamedBy m x a i
    pub second : IsNamedBy m x b j
    pub apart : ¬ ((a ≡ b) × (i ≡ j))

  -- what is noted of x where the fields were looked at of which P holds
  abbrev pub Sums : (Oref → ℕ → Type 0) → Option Naming → Type 0
  Sums P None = (a : Oref) (i : ℕ) → P a i → ¬ IsNamedBy m x a i
  Sums P (Some (Once b j owned)) = NamedOnce P b j owned
  Sums P (Some Several) = NamedTwice

  pub weaken : (P Q : Oref → ℕ → Type 0) → ((a : Oref) (i : ℕ) → Q a i → IsNamedBy m x a i → P a i) → (w : Option Naming) → Sums P w → Sums Q w
  weaken P Q f None h = λ a i q n. h a i (f a i q n) n
  weaken P Q f (Some (Once b j owned)) h = record { named = h.named; owned = h.owned; only = λ a i q n. h.only a i (f a i q n) n }
  weaken P Q f (Some Several) h = h

  abbrev More : (Oref → ℕ → Type 0) → Oref → ℕ → Oref → ℕ → Type 0
  More P a i b j = P b j ⊎ ((b ≡ a) × (j ≡ i))

  module _ (P : Oref → ℕ → Type 0) (a : Oref) (i : ℕ) (o : Obj) (is : get m a ≡ Some o) where
    value_of : IsNamedBy m x a i → slice_get o.fields i ≡ Some (value.Ref x)
    value_of h = subst (λ p. slice_get p.fields i ≡ Some (value.Ref x)) (same_object h.stored is) h.names

    unnamed : (¬ IsNamedBy m x a i) → (w : Option Naming) → Sums P w → Sums (More P a i) w
    unnamed not_so w h = weaken P (More P a i) still w h
      where
        still : (b : Oref) (j : ℕ) → More P a i b j → IsNamedBy m x b j → P b j
        still b j (inl p) n = p
        still b j (inr e) n = absurd (not_so (subst (λ c. IsNamedBy m x c i) e.0 (subst (IsNamedBy m x b) e.1 n)))

    joins : IsNamedBy m x a i → (w : Option Naming) → Sums P w → Sums (More P a i) (Some (joined a i (is_owned_field s o i && (a.repo == x.repo)) w))
    joins named None h = record {
      named = named;
      owned = λ p at. ap (λ q. is_owned_field s q i && (a.repo == x.repo)) (same_object is at);
      only = only;
    }
      where
        only : (b : Oref) (j : ℕ) → More P a i b j → IsNamedBy m x b j → (b ≡ a) × (j ≡ i)
        only b j (inl p) n = absurd (h b j p n)
        only b j (inr e) n = e
    joins named (Some (Once b j known)) h = by_test (same_oref a b) refl (i == j) refl
      where
        by_test : (t : Bool) → same_oref a b ≡ t → (u : Bool) → (i == j) ≡ u
            → Sums (More P a i) (Some (cond (t && u) (Once b j known) Several))
        by_test true et true eu = record { named = h.named; owned = h.owned; only = only }
          where
            only : (c : Oref) (k : ℕ) → More P a i c k → IsNamedBy m x c k → (c ≡ b) × (k ≡ j)
            only c k (inl p) n = h.only c k p n
            only c k (inr e) n = (e.0 ∙ tells_apart oref_exact a b et, e.1 ∙ eqb-true i j eu)
        by_test true et false eu = record {
          a = a;
          b = b;
          i = i;
          j = j;
          first = named;
          second = h.named;
          apart = λ e. both_ways _ eu (subst (λ k. (i == k) ≡ true) e.1 (same_number i));
        }
        by_test false et u eu = record {
          a = a;
          b = b;
          i = i;
          j = j;
          first = named;
          second = h.named;
          apart = λ e. both_ways _ et (subst (λ c. same_oref a c ≡ true) e.0 (same_itself a));
        }
    joins named (Some Several) h = h

    pub noted_one : (n : Namings) → Sums P (get n x) → Sums (More P a i) (get (noted s n a o i (slice_get o.fields i)) x)
    noted_one n h = by_value (slice_get o.fields i) refl
      where
        other : (v : Option Value) → slice_get o.fields i ≡ v → ¬ (v ≡ Some (value.Ref x)) → Sums (More P a i) (get n x)
        other v e not_so = unnamed (λ named. not_so (sym e ∙ value_of named)) (get n x) h

        by_name : (z : Oref) → slice_get o.fields i ≡ Some (value.Ref z) → (t : Bool) → same_oref x z ≡ t
            → Sums (More P a i) (cond t (Some (joined a i (is_owned_field s o i && (a.repo == z.repo)) (get n z))) (get n x))
        by_name z e true same =
            let is_x : x ≡ z = tells_apart oref_exact x z same in
            let named : IsNamedBy m x a i = record { object = o; stored = is; names = subst (λ y. slice_get o.fields i ≡ Some (value.Ref y)) (sym is_x) e } in
            subst (λ y. Sums (More P a i) (Some (joined a i (is_owned_field s o i && (a.repo == y.repo)) (get n y)))) is_x (joins named (get n x) h)
        by_name z e false apart =
            other (Some (value.Ref z)) e (λ g. both_ways _ apart (subst (λ y. same_oref x y ≡ true) (sym (named_same g)) (same_itself x)))
          where
            named_same : Some (value.Ref z) ≡ Some (value.Ref x) → z ≡ x
            named_same g = cc

        by_value : (v : Option Value) → slice_get o.fields i ≡ v → Sums (More P a i) (get (noted s n a o i v) x)
        by_value None e = other None e (λ g. cc)
        by_value (Some (value.Int k)) e = other (Some (value.Int k)) e (λ g. cc)
        by_value (Some (value.Text k)) e = other (Some (value.Text k)) e (λ g. cc)
        by_value (Some value.Null) e = other (Some value.Null) e (λ g. cc)
        by_value (Some (value.Ref z)) e =
            subst (Sums (More P a i)) (sym (get-insert oref_total n z (joined a i (is_owned_field s o i && (a.repo == z.repo)) (get n z)) x))
            (by_name z e (same_oref x z) refl)

  below : (j k : ℕ) → j < suc k → (j < k) ⊎ (j ≡ k)
  below j k h = by_test (nat_lt j k) refl
    where
      by_test : (b : Bool) → nat_lt j k ≡ b → (j < k) ⊎ (j ≡ k)
      by_test true e = inl (ltb-true j k e)
      by_test false e = let g = ltb-false j k e in inr (omega (arith, g, h))

  abbrev Upto : (Oref → ℕ → Type 0) → Oref → ℕ → Oref → ℕ → Type 0
  Upto P a k b j = P b j ⊎ ((b ≡ a) × (j < k))

  noted_some : (P : Oref → ℕ → Type 0) (a : Oref) (o : Obj) → get m a ≡ Some o → (n : Namings) (k : ℕ) → Sums P (get n x) → Sums (Upto P a k) (get (noted_fields s n a o k) x)
  unfolding noted_fields
  noted_some P a o is n zero h = weaken P (Upto P a zero) none (get n x) h
    where
      none : (b : Oref) (j : ℕ) → Upto P a zero b j → IsNamedBy m x b j → P b j
      none b j (inl p) named = p
      none b j (inr e) named = absurd (omega (arith, e.1))
  noted_some P a o is n (suc k) h =
      weaken (More (Upto P a k) a k) (Upto P a (suc k)) split (get (noted s (noted_fields s n a o k) a o k (slice_get o.fields k)) x)
      (noted_one (Upto P a k) a k o is (noted_fields s n a o k) (noted_some P a o is n k h))
    where
      by_place : (b : Oref) (j : ℕ) → b ≡ a → (j < k) ⊎ (j ≡ k) → More (Upto P a k) a k b j
      by_place b j e (inl low) = inl (inr (e, low))
      by_place b j e (inr at) = inr (e, at)

      split : (b : Oref) (j : ℕ) → Upto P a (suc k) b j → IsNamedBy m x b j → More (Upto P a k) a k b j
      split b j (inl p) named = inl (inl p)
      split b j (inr e) named = by_place b j e.0 (below j k e.1)

  abbrev Also : (Oref → ℕ → Type 0) → Oref → Oref → ℕ → Type 0
  Also P a b j = P b j ⊎ (b ≡ a)

  noted_all : (P : Oref → ℕ → Type 0) (a : Oref) (n : Namings) (w : Option Obj) → get m a ≡ w → Sums P (get n x) → Sums (Also P a) (get (noted_object s n a w) x)
  noted_all P a n None is h = weaken P (Also P a) none (get n x) h
    where
      none : (b : Oref) (j : ℕ) → Also P a b j → IsNamedBy m x b j → P b j
      none b j (inl p) named = p
      none b j (inr e) named = let g : None ≡ Some named.object = sym (subst (λ c. get m c ≡ None) (sym e) is) ∙ named.stored in absurd (empty_not g)
        where
          empty_not : None ≡ Some named.object → ⊥
          empty_not g = cc
  noted_all P a n (Some o) is h =
      weaken (Upto P a (length o.fields)) (Also P a) within (get (noted_fields s n a o (length o.fields)) x) (noted_some P a o is n (length o.fields) h)
    where
      within : (b : Oref) (j : ℕ) → Also P a b j → IsNamedBy m x b j → Upto P a (length o.fields) b j
      within b j (inl p) named = inl p
      within b j (inr e) named =
          let same : named.object ≡ o = same_Some _ _ (sym named.stored ∙ subst (λ c. get m c ≡ Some o) (sym e) is) in
          inr (e, slice_get_within o.fields j (value.Ref x) (subst (λ p. slice_get p.fields j ≡ Some (value.Ref x)) same named.names))

  noted_here : (P : Oref → ℕ → Type 0) (a : Oref) (n : Namings) → Sums P (get n x) → Sums (Also P a) (get (noted_name s m n a) x)
  unfolding noted_name
  noted_here P a n h = noted_all P a n (get m a) refl h

  abbrev Among : (Oref → ℕ → Type 0) → List Oref → Oref → ℕ → Type 0
  Among P names b j = P b j ⊎ (list_any (same_oref b) names ≡ true)

  noted_list : (P : Oref → ℕ → Type 0) (names : List Oref) (n : Namings) → Sums P (get n x)
      → Sums (Among P names) (get (fold (λ k a. noted_name s m k a) n names) x)
  noted_list P [] n h = weaken P (Among P []) none (get n x) h
    where
      none : (b : Oref) (j : ℕ) → Among P [] b j → IsNamedBy m x b j → P b j
      none b j (inl p) named = p
      none b j (inr e) named = absurd (both_ways _ refl e)
  noted_list P (a ∷ names) n h =
      weaken (Among (Also P a) names) (Among P (a ∷ names)) split (get (fold (λ k b. noted_name s m k b) n (a ∷ names)) x)
      (noted_list (Also P a) names (noted_name s m n a) (noted_here P a n h))
    where
      by_test : (b : Oref) (j : ℕ) → (same_oref b a ≡ true) ⊎ (list_any (same_oref b) names ≡ true) → Among (Also P a) names b j
      by_test b j (inl e) = inl (inr (tells_apart oref_exact b a e))
      by_test b j (inr e) = inr e

      split : (b : Oref) (j : ℕ) → Among P (a ∷ names) b j → IsNamedBy m x b j → Among (Also P a) names b j
      split b j (inl p) named = inl (inl p)
      split b j (inr e) named = by_test b j (or_cases (same_oref b a) (list_any (same_oref b) names) e)

  abbrev All : Oref → ℕ → Type 0
  All a i = Unit {0}

  -- the notes on all objects say so of each field
  pub summed : Sums All (get (namings s m) x)
  unfolding namings
  summed =
      weaken (Among (λ a i. ⊥) (keys m)) All known (get (namings s m) x)
      (noted_list (λ a i. ⊥) (keys m) empty (λ a i p. absurd p))
    where
      known : (b : Oref) (j : ℕ) → All b j → IsNamedBy m x b j → Among (λ a i. ⊥) (keys m) b j
      known b j u named = inr (sym (is_some-lookup (same_oref b) m.pairs) ∙ ap is_some named.stored)

  -- ---- the owner

  sole_is : (w : Option Naming) → Sums All w → (a : Oref) → sole w ≡ Some a → IsOwnerOf s m x a
  sole_is None h a e = absurd (no e)
    where
      no : None ≡ Some a → ⊥
      no g = cc
  sole_is (Some Several) h a e = absurd (no e)
    where
      no : None ≡ Some a → ⊥
      no g = cc
  sole_is (Some (Once b j false)) h a e = absurd (no e)
    where
      no : None ≡ Some a → ⊥
      no g = cc
  sole_is (Some (Once b j true)) h a e =
      let t = and_parts (is_owned_field s h.named.object j) (b.repo == x.repo) (sym (h.owned h.named.object h.named.stored)) in
      subst (IsOwnerOf s m x) (same_Some _ _ e) (record {
        field = j;
        owns = owned_owns b j h.named t.0;
        near = eqb-true b.repo x.repo t.1;
        alone = λ c k n. h.only c k tt n;
      })

  pub owner_is : (a : Oref) → sole (get (namings s m) x) ≡ Some a → IsOwnerOf s m x a
  owner_is a e = sole_is (get (namings s m) x) summed a e

  named_by_owner : (a : Oref) (h : IsOwnerOf s m x a) → IsNamedBy m x a h.field
  named_by_owner a h = record { object = h.owns.reference.object; stored = h.owns.reference.stored; names = h.owns.reference.refers.names }

  kept_owner : (w : Option Naming) → Sums All w → (a : Oref) → IsOwnerOf s m x a → sole w ≡ Some a
  kept_owner None h a own = absurd (h a own.field tt (named_by_owner a own))
  kept_owner (Some Several) h a own =
      let one = own.alone h.a h.i h.first in
      let two = own.alone h.b h.j h.second in
      absurd (h.apart (one.0 ∙ sym two.0, one.1 ∙ sym two.1))
  kept_owner (Some (Once b j owned)) h a own =
      let same = h.only a own.field tt (named_by_owner a own) in
      let there : get m b ≡ Some own.owns.reference.object = subst (λ c. get m c ≡ Some own.owns.reference.object) same.0 own.owns.reference.stored in
      let field : is_owned_field s own.owns.reference.object j ≡ true = subst (λ k. is_owned_field s own.owns.reference.object k ≡ true) same.1 (owns_owned a own.field own.owns.reference.object own.owns.reference.stored own.owns) in
      let near : (b.repo == x.repo) ≡ true = subst (λ r. (r == x.repo) ≡ true) (ap (λ c. c.repo) same.0) (subst (λ r. (a.repo == r) ≡ true) own.near (same_number a.repo)) in
      let known : owned ≡ true = h.owned own.owns.reference.object there ∙ and_from _ _ field near in
      ap (λ t. cond t (Some b) None) known ∙ ap Some (sym same.0)

  pub is_owner : (a : Oref) → IsOwnerOf s m x a → sole (get (namings s m) x) ≡ Some a
  is_owner a own = kept_owner (get (namings s m) x) summed a own

  -- ---- who is named once at most, by an owned field in its own repository

  pub record IsKept : Type 0 where
    pub owned : (a : Oref) → (i : ℕ) → IsNamedBy m x a i → Owns s m a i x
    pub near : (a : Oref) → (i : ℕ) → IsNamedBy m x a i → a.repo ≡ x.repo
    pub once : (a b : Oref) → (i j : ℕ) → IsNamedBy m x a i → IsNamedBy m x b j → (a ≡ b) × (i ≡ j)

  kept_so : (w : Option Naming) → Sums All w → is_kept w ≡ true → IsKept
  kept_so None h e = record {
    owned = λ a i n. absurd (h a i tt n);
    near = λ a i n. absurd (h a i tt n);
    once = λ a b i j n k. absurd (h a i tt n);
  }
  kept_so (Some Several) h e = absurd (both_ways _ refl e)
  kept_so (Some (Once b j owned)) h e = record {
    owned = λ a i n. let same = h.only a i tt n in owned_owns a i n (subst (λ k. is_owned_field s n.object k ≡ true) (sym same.1) (there a i n same.0).0);
    near = λ a i n. let same = h.only a i tt n in ap (λ c. c.repo) same.0 ∙ eqb-true b.repo x.repo (there a i n same.0).1;
    once = λ a c i k n g. let one = h.only a i tt n in let two = h.only c k tt g in (one.0 ∙ sym two.0, one.1 ∙ sym two.1);
  }
    where
      there : (a : Oref) (i : ℕ) (n : IsNamedBy m x a i) → a ≡ b → (is_owned_field s n.object j ≡ true) × ((b.repo == x.repo) ≡ true)
      there a i n same = and_parts (is_owned_field s n.object j) (b.repo == x.repo) (sym (h.owned n.object (subst (λ c. get m c ≡ Some n.object) same n.stored)) ∙ e)

  pub kept : is_kept (get (namings s m) x) ≡ true → IsKept
  kept e = kept_so (get (namings s m) x) summed e

  so_kept : (w : Option Naming) → Sums All w → IsKept → is_kept w ≡ true
  so_kept None h k = refl
  so_kept (Some Several) h k = absurd (h.apart (k.once h.a h.b h.i h.j h.first h.second))
  so_kept (Some (Once b j owned)) h k =
      let own = k.owned b j h.named in
      let near : (b.repo == x.repo) ≡ true = subst (λ r. (b.repo == r) ≡ true) (k.near b j h.named) (same_number b.repo) in
      h.owned h.named.object h.named.stored ∙ and_from _ _ (owns_owned b j h.named.object h.named.stored own) near

  pub is_kept_so : IsKept → is_kept (get (namings s m) x) ≡ true
  is_kept_so k = so_kept (get (namings s m) x) summed k
