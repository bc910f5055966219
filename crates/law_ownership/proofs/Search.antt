-- Whether an object of a map owns another.
use Rattle.class_defs.proofs.SameNames.{one_name, same_itself}
use Rattle.class_defs.specs.Epochs.{classes_of}
use Rattle.class_defs.specs.Ownership.{Owns, type_at}
use Rattle.class_defs.specs.Rules.{is_part}
use Rattle.class_defs.specs.Stored.{Objects}
use Rattle.class_defs.specs.declared.store.Schemas.{Schemas}
use Rattle.class_defs.specs.declared.types.ExprType.TheVariants as type
use Rattle.class_defs.specs.declared.types.ExprType.{ExprType}
use Rattle.std.proofs.Common.{Bool, List, [], ap, arith, cond, false, inl, inr, length, refl, subst, sym, true, ℕ, zero, suc, ◌<◌, ◌≡◌, ◌∙◌, ◌∷◌}
use Rattle.std.proofs.lemmas.Option.{slice_get_within}
use Rattle.std.proofs.lemmas.Bool.{and_parts, both_ways}
use Rattle.std.specs.BTreeMap.{is_at}
use Rattle.std.specs.Map.{lookup}
use Rattle.std.specs.Prelude.{None, Option, Some, is_some, slice_get, ◌&&◌, ◌⊎◌}
use Rattle.thor_value.specs.FiniteMap.{get}
use Rattle.thor_value.specs.Names.{oref_cmp, same_oref}
use Rattle.thor_value.specs.declared.names.Oref.{Oref}
use Rattle.thor_value.specs.declared.values.Obj.{Obj}
use Rattle.thor_value.specs.declared.values.Value.TheVariants as value
use Rattle.thor_value.specs.declared.values.Value.{Value}

le_or_same : (i n : ℕ) → i < suc n → (i < n) ⊎ (i ≡ n)
le_or_same i n l = grind arith

-- one number below n passes, or none does
below : (test : ℕ → Bool) (n : ℕ) → ((i : ℕ) × (test i ≡ true)) ⊎ ((i : ℕ) → i < n → test i ≡ false)
below test zero = inr (λ i l. absurd (omega (arith, l)))
below test (suc n) = by (test n) refl (below test n)
  where
    by : (b : Bool) → test n ≡ b → ((i : ℕ) × (test i ≡ true)) ⊎ ((i : ℕ) → i < n → test i ≡ false) → ((i : ℕ) × (test i ≡ true)) ⊎ ((i : ℕ) → i < suc n → test i ≡ false)
    by true is k = inl (n, is)
    by false is (inl k) = inl k
    by false is (inr k) = inr (λ i l. last i (le_or_same i n l))
      where
        last : (i : ℕ) → (i < n) ⊎ (i ≡ n) → test i ≡ false
        last i (inl l) = k i l
        last i (inr e) = ap test e ∙ is

module _ (s : Schemas) (m : Objects) (z : Oref) where
  -- whether this value in a field of this type is an owner's of z
  abbrev owns_by : Option Value → Option ExprType → Bool
  owns_by (Some (value.Ref y)) (Some (type.Class d)) = same_oref y z && is_part (classes_of s 0) (type.Class d)
  owns_by (Some (value.Ref y)) (Some type.Int) = false
  owns_by (Some (value.Ref y)) (Some type.Text) = false
  owns_by (Some (value.Ref y)) (Some type.Null) = false
  owns_by (Some (value.Ref y)) (Some type.Untold) = false
  owns_by (Some (value.Ref y)) None = false
  owns_by (Some (value.Int n)) t = false
  owns_by (Some (value.Text n)) t = false
  owns_by (Some value.Null) t = false
  owns_by None t = false

  abbrev test : Obj → ℕ → Bool
  test o i = owns_by (slice_get o.fields i) (type_at (classes_of s o.ver) o.class i)

  found_by : (a : Oref) (o : Obj) (i : ℕ) → get m a ≡ Some o → (v : Option Value) (t : Option ExprType) → slice_get o.fields i ≡ v → type_at (classes_of s o.ver) o.class i ≡ t → owns_by v t ≡ true → Owns s m a i z
  found_by a o i at (Some (value.Ref y)) (Some (type.Class d)) v t h =
      let p = and_parts (same_oref y z) _ h in
      record { class = d; part = p.1; reference = record { object = o; stored = at; refers = record { declared = t; names = v ∙ ap (λ (x : Oref). Some (value.Ref x)) (one_name y z true p.0 refl) } } }
  found_by a o i at (Some (value.Ref y)) (Some type.Int) v t h = cc
  found_by a o i at (Some (value.Ref y)) (Some type.Text) v t h = cc
  found_by a o i at (Some (value.Ref y)) (Some type.Null) v t h = cc
  found_by a o i at (Some (value.Ref y)) (Some type.Untold) v t h = cc
  found_by a o i at (Some (value.Ref y)) None v t h = cc
  found_by a o i at (Some (value.Int n)) t v e h = cc
  found_by a o i at (Some (value.Text n)) t v e h = cc
  found_by a o i at (Some value.Null) t v e h = cc
  found_by a o i at None t v e h = cc

  passes : (a : Oref) (o : Obj) (i : ℕ) → get m a ≡ Some o → (own : Owns s m a i z) → own.reference.object ≡ o → test o i ≡ true
  passes a o i at own same =
      subst (λ (p : Obj). test p i ≡ true) same (
      ap (λ v. owns_by v (type_at (classes_of s own.reference.object.ver) own.reference.object.class i)) own.reference.refers.names
      ∙ ap (owns_by (Some (value.Ref z))) own.reference.refers.declared
      ∙ ap (λ (b : Bool). b && is_part (classes_of s 0) (type.Class own.class)) (same_itself z) ∙ own.part)

  abbrev Found : Type 0
  Found = (a : Oref) × (i : ℕ) × Owns s m a i z

  one_object : (o p : Obj) → ◌≡◌ {A = Option Obj} (Some o) (Some p) → o ≡ p
  one_object o p e = cc

  no_object : {A : Type 0} (o : Obj) → ◌≡◌ {A = Option Obj} None (Some o) → A
  no_object o e = cc

  at_key : (a : Oref) (o : Option Obj) → get m a ≡ o → Found ⊎ ((i : ℕ) → Owns s m a i z → ⊥)
  at_key a None is = inr (λ i own. no_object own.reference.object (sym is ∙ own.reference.stored))
  at_key a (Some o) is = elim (below (test o) (length o.fields)) [
    | inl k ↦ inl (a, k.0, found_by a o k.0 is (slice_get o.fields k.0) (type_at (classes_of s o.ver) o.class k.0) refl refl k.1)
    | inr k ↦ inr (λ i own.
        let same : own.reference.object ≡ o = one_object own.reference.object o (sym own.reference.stored ∙ is) in
        let l : i < length o.fields = slice_get_within o.fields i (value.Ref z) (subst (λ (p : Obj). slice_get p.fields i ≡ Some (value.Ref z)) same own.reference.refers.names) in
        absurd (both_ways (test o i) (k i l) (passes a o i is own same)))
  ]

  among_keys : (es : List (Oref × Obj)) → Found ⊎ ((a : Oref) (i : ℕ) → is_some (lookup (is_at (oref_cmp a)) es) ≡ true → Owns s m a i z → ⊥)
  among_keys [] = inr (λ a i h own. cc)
  among_keys (e ∷ es) = by (at_key e.0 (get m e.0) refl) (among_keys es)
    where
      by : Found ⊎ ((i : ℕ) → Owns s m e.0 i z → ⊥) → Found ⊎ ((a : Oref) (i : ℕ) → is_some (lookup (is_at (oref_cmp a)) es) ≡ true → Owns s m a i z → ⊥)
          → Found ⊎ ((a : Oref) (i : ℕ) → is_some (lookup (is_at (oref_cmp a)) (e ∷ es)) ≡ true → Owns s m a i z → ⊥)
      by (inl k) g = inl k
      by (inr k) (inl g) = inl g
      by (inr k) (inr g) = inr (λ a i h own. here a i (same_oref a e.0) refl h own)
        where
          here : (a : Oref) (i : ℕ) (c : Bool) → same_oref a e.0 ≡ c → is_some (cond c (Some e.1) (lookup (is_at (oref_cmp a)) es)) ≡ true → Owns s m a i z → ⊥
          here a i true is h own = k i (subst (λ (x : Oref). Owns s m x i z) (one_name a e.0 true is refl) own)
          here a i false is h own = g a i h own

  -- some object owns z, or none does
  pub owner_or_none : Found ⊎ ((a : Oref) (i : ℕ) → Owns s m a i z → ⊥)
  owner_or_none = elim (among_keys m.pairs) [
    | inl k ↦ inl k
    | inr k ↦ inr (λ a i own. k a i (ap is_some own.reference.stored) own)
  ]
