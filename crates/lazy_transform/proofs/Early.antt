-- No upgrade changes an object that was written behind it.
use Rattle.std.proofs.Common.{◌≡◌, ◌≤◌, ◌+◌, arith, cond, List, [], ◌++◌, ℕ, zero, suc, Option, refl, ap, sym, subst, ◌∙◌}
use Rattle.std.proofs.Common.{append_assoc}
use Rattle.std.proofs.lemmas.Bool.{le-ltb, lt-ltb}
use Rattle.std.specs.List.{flat_map}
use Rattle.thor_value.specs.FiniteMap.{get}
use Rattle.thor_value.specs.declared.names.Oref.{Oref}
use Rattle.thor_value.specs.declared.values.Obj.{Obj}
use Rattle.class_defs.specs.Eager.{value as value_of, values}
use Rattle.class_defs.specs.Epochs.{classes_of, next_of}
use Rattle.class_defs.specs.Stored.{Objects, bare}
use Rattle.class_defs.specs.Upgrades.{transformed}
use Rattle.class_defs.specs.declared.store.Schemas.{Schemas}
use Rattle.class_defs.specs.declared.store.Object.{Object}
use Rattle.class_defs.specs.declared.upgrades.ClassUpgrade.{ClassUpgrade}
use Rattle.lazy_transform.specs.Reads.{reads, upgrade_reads, with_reads}

-- up to its version an object is as it is stored
pub value_early : (s : Schemas) (m : Objects) (k : ℕ) (o : Obj) → k ≤ o.ver → value_of s m k o ≡ bare o
unfolding value_of
value_early s m zero o h = refl
value_early s m (suc k) o h =
    ap (λ b. cond b (value_of s m k o) (transformed (classes_of s k) (classes_of s (suc k)) (get (values s m k)) (value_of s m k o) (next_of s k o.class)))
    (lt-ltb k o.ver (omega (arith, h)))
    ∙ value_early s m k o (omega (arith, h))

nothing_more : (xs : List Oref) → xs ≡ [] → xs ++ [] ≡ []
nothing_more xs h = ap (λ ys. ys ++ []) h

-- and nothing is read for it
pub reads_early : (s : Schemas) (m : Objects) (k : ℕ) (o : Obj) → k ≤ o.ver → reads s m k o ≡ []
unfolding reads
reads_early s m zero o h = refl
reads_early s m (suc k) o h =
    ap (λ b. reads s m k o ++ flat_map (with_reads (reads s m k) m) (cond b [] (upgrade_reads (classes_of s k) (get (values s m k)) (value_of s m k o) (next_of s k o.class))))
    (lt-ltb k o.ver (omega (arith, h)))
    ∙ nothing_more (reads s m k o) (reads_early s m k o (omega (arith, h)))

-- one upgrade on, where the object wasn't written behind it
pub value_on : (s : Schemas) (m : Objects) (k : ℕ) (o : Obj) (v : Object) (said : Option ClassUpgrade) → o.ver ≤ k
    → v ≡ value_of s m k o → said ≡ next_of s k o.class
    → transformed (classes_of s k) (classes_of s (k + 1)) (get (values s m k)) v said ≡ value_of s m (k + 1) o
unfolding value_of
value_on s m k o v said le v_is said_is =
    let e : suc k ≡ k + 1 = omega arith in
    subst (λ n. transformed (classes_of s k) (classes_of s n) (get (values s m k)) v said ≡ value_of s m n o) e
    (ap (λ w. transformed (classes_of s k) (classes_of s (suc k)) (get (values s m k)) w said) v_is
    ∙ ap (λ w. transformed (classes_of s k) (classes_of s (suc k)) (get (values s m k)) (value_of s m k o) w) said_is
    ∙ sym (ap (λ b. cond b (value_of s m k o) (transformed (classes_of s k) (classes_of s (suc k)) (get (values s m k)) (value_of s m k o) (next_of s k o.class))) (le-ltb k o.ver le)))

pub reads_on : (s : Schemas) (m : Objects) (k : ℕ) (o : Obj) (v : Object) (said : Option ClassUpgrade) (looked middle after : List Oref) → o.ver ≤ k
    → v ≡ value_of s m k o → said ≡ next_of s k o.class → middle ≡ looked ++ reads s m k o
    → after ≡ middle ++ flat_map (with_reads (reads s m k) m) (upgrade_reads (classes_of s k) (get (values s m k)) v said)
    → after ≡ looked ++ reads s m (k + 1) o
unfolding reads
reads_on s m k o v said looked middle after le v_is said_is middle_is after_is =
    let e : suc k ≡ k + 1 = omega arith in
    subst (λ n. after ≡ looked ++ reads s m n o) e
    (after_is
    ∙ ap (λ w. middle ++ flat_map (with_reads (reads s m k) m) (upgrade_reads (classes_of s k) (get (values s m k)) w said)) v_is
    ∙ ap (λ w. middle ++ flat_map (with_reads (reads s m k) m) (upgrade_reads (classes_of s k) (get (values s m k)) (value_of s m k o) w)) said_is
    ∙ ap (λ xs. xs ++ flat_map (with_reads (reads s m k) m) (upgrade_reads (classes_of s k) (get (values s m k)) (value_of s m k o) (next_of s k o.class))) middle_is
    ∙ append_assoc looked (reads s m k o) (flat_map (with_reads (reads s m k) m) (upgrade_reads (classes_of s k) (get (values s m k)) (value_of s m k o) (next_of s k o.class)))
    ∙ sym (ap (λ b. looked ++ (reads s m k o ++ flat_map (with_reads (reads s m k) m) (cond b [] (upgrade_reads (classes_of s k) (get (values s m k)) (value_of s m k o) (next_of s k o.class))))) (le-ltb k o.ver le)))
