-- That upgrades drop references or keep them: those in the value of an object are among the stored ones.
use Rattle.std.proofs.Common.{◌≡◌, ◌≤◌, ◌<◌, arith, Bool, true, false, cond, List, ℕ, zero, suc, nat_lt, refl, ap, sym, ◌∙◌, subst}
use Rattle.std.proofs.lemmas.Bool.{ltb-true, ltb-false, le-ltb}
use Rattle.thor_value.specs.FiniteMap.{get}
use Rattle.thor_value.specs.declared.names.Oref.{Oref}
use Rattle.thor_value.specs.declared.values.Obj.{Obj}
use Rattle.law_lazy_upgrade.proofs.Handing.{AreApart, next_apart, next_refers}
use Rattle.class_defs.proofs.Levels.{lags_early}
use Rattle.law_lazy_upgrade.proofs.Values.{value_class, value_stays}
use Rattle.class_defs.specs.Eager.{value, values}
use Rattle.class_defs.specs.Epochs.{classes_of, next_of}
use Rattle.class_defs.specs.KeptOwnership.{AllKeepClasses}
use Rattle.class_defs.specs.Ownership.{Refers}
use Rattle.class_defs.specs.Rules.{is_part}
use Rattle.class_defs.specs.Stored.{Objects, bare}
use Rattle.class_defs.specs.Upgrades.{transformed}
use Rattle.class_defs.specs.declared.classes.Class.{Class}
use Rattle.class_defs.specs.declared.store.Object.{Object}
use Rattle.class_defs.specs.declared.store.Schemas.{Schemas}
use Rattle.class_defs.specs.declared.types.ExprType.{ExprType}

-- an object that was written before an upgrade, behind it
pub value_next : (s : Schemas) (m : Objects) (k : ℕ) (o : Obj) → o.ver ≤ k
    → value s m (suc k) o ≡ transformed (classes_of s k) (classes_of s (suc k)) (get (values s m k)) (value s m k o) (next_of s k (value s m k o).class)
unfolding value
value_next s m k o h = later (value s m k o) (nat_lt k o.ver) (le-ltb k o.ver h) (value_class s m k o)
  where
    later : (v : Object) (b : Bool) → b ≡ false → v.class ≡ o.class
        → cond b v (transformed (classes_of s k) (classes_of s (suc k)) (get (values s m k)) v (next_of s k o.class))
        ≡ transformed (classes_of s k) (classes_of s (suc k)) (get (values s m k)) v (next_of s k v.class)
    later v true h c = cc
    later v false h c = ap (λ d. transformed (classes_of s k) (classes_of s (suc k)) (get (values s m k)) v (next_of s k d)) (sym c)

-- an object in an epoch before the one in which it was written
pub value_early : (s : Schemas) (m : Objects) (k : ℕ) (o : Obj) → k ≤ o.ver → value s m k o ≡ bare o
value_early s m k o h = value_stays s m k o (lags_early s o k h)

module _ (s : Schemas) (e : ℕ) (keeps : AllKeepClasses s e) where
  -- a class keeps its kind
  pub same_kind : (k : ℕ) → k ≤ e → (t : ExprType) → is_part (classes_of s k) t ≡ is_part (classes_of s 0) t
  same_kind zero h t = refl
  same_kind (suc k) h t = (keeps k (omega (arith, h))).kinds t ∙ same_kind k (omega (arith, h)) t

  module _ (m : Objects) (o : Obj) where
    -- what holds of the stored object by the classes of its epoch, and goes through upgrades, holds of its values
    pub along : (Q : List Class → Object → Type 0) → Q (classes_of s o.ver) (bare o)
        → ((k : ℕ) → k < e → o.ver ≤ k → Q (classes_of s k) (value s m k o)
        → Q (classes_of s (suc k)) (transformed (classes_of s k) (classes_of s (suc k)) (get (values s m k)) (value s m k o) (next_of s k (value s m k o).class)))
        → (k : ℕ) → o.ver ≤ k → k ≤ e → Q (classes_of s k) (value s m k o)
    along Q first step zero h w =
        let v : zero ≡ o.ver = omega (arith, h) in
        subst (λ n. Q (classes_of s n) (value s m zero o)) (sym v) (subst (Q (classes_of s o.ver)) (sym (value_early s m zero o (omega arith))) first)
    along Q first step (suc k) h w = by_epoch (nat_lt k o.ver) refl
        (λ below. step k (omega (arith, w)) below (along Q first step k below (omega (arith, w))))
      where
        by_epoch : (b : Bool) → nat_lt k o.ver ≡ b
            → (o.ver ≤ k → Q (classes_of s (suc k)) (transformed (classes_of s k) (classes_of s (suc k)) (get (values s m k)) (value s m k o) (next_of s k (value s m k o).class)))
            → Q (classes_of s (suc k)) (value s m (suc k) o)
        by_epoch true is go =
            let v : suc k ≡ o.ver = omega (arith, h, ltb-true k o.ver is) in
            subst (λ n. Q (classes_of s n) (value s m (suc k) o)) (sym v)
            (subst (Q (classes_of s o.ver)) (sym (value_early s m (suc k) o (omega (arith, v)))) first)
        by_epoch false is go = subst (Q (classes_of s (suc k))) (sym (value_next s m k o (ltb-false k o.ver is))) (go (ltb-false k o.ver is))

    -- each reference of a value is one of the stored object
    abbrev AreStored : List Class → Object → Type 0
    AreStored classes v = (i d : ℕ) → (z : Oref) → Refers classes v i d z → (h : ℕ) × Refers (classes_of s o.ver) (bare o) h d z

    stored_step : (k : ℕ) → k < e → AreStored (classes_of s k) (value s m k o)
        → AreStored (classes_of s (suc k)) (transformed (classes_of s k) (classes_of s (suc k)) (get (values s m k)) (value s m k o) (next_of s k (value s m k o).class))
    stored_step k h before i d z r =
        let p = next_refers s k (keeps k h) (get (values s m k)) (value s m k o) (next_of s k (value s m k o).class) refl i d z r in
        before p.0 d z p.1

    pub shrinks : (k : ℕ) → o.ver ≤ k → k ≤ e → (i d : ℕ) (z : Oref) → Refers (classes_of s k) (value s m k o) i d z
        → (h : ℕ) × Refers (classes_of s o.ver) (bare o) h d z
    shrinks = along AreStored (λ i d z r. (i, r)) (λ k h w before. stored_step k h before)

    pub keeps_apart : AreApart s (classes_of s o.ver) (bare o) → (k : ℕ) → o.ver ≤ k → k ≤ e → AreApart s (classes_of s k) (value s m k o)
    keeps_apart first =
        along (AreApart s) first
        (λ k h w before. next_apart s k (keeps k h) (get (values s m k)) (value s m k o) (next_of s k (value s m k o).class) refl before)
