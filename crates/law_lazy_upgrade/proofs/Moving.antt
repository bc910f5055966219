-- That what a stored map stands for moves by the eager upgrade, where an upgrade raises the map's epoch.
use Rattle.std.proofs.Common.{◌≡◌, ◌≤◌, Bool, true, false, cond, ◌+◌, arith, List, [], ◌∷◌, ℕ, suc, nat_lt, Option, Some, None, option_map, map, refl, ap, sym, ◌∙◌, subst}
use Rattle.std.proofs.lemmas.Bool.{le-ltb}
use Rattle.std.specs.List.Sorted.{IsStrictlySortedBy}
use Rattle.std.specs.Map.{keys_of}
use Rattle.std.specs.Option.{option_and_then}
use Rattle.thor_value.proofs.FiniteMap.{same_map}
use Rattle.thor_value.proofs.NameOrders.{oref_exact, oref_total}
use Rattle.thor_value.specs.FiniteMap.{IsSorted, Map, get}
use Rattle.thor_value.specs.Names.{oref_cmp}
use Rattle.thor_value.specs.declared.names.Oref.{Oref}
use Rattle.thor_value.specs.declared.values.Obj.{Obj}
use Rattle.law_lazy_upgrade.proofs.Shrinking.{value_early}
use Rattle.law_lazy_upgrade.proofs.Values.{get-each, value_class}
use Rattle.class_defs.specs.Eager.{eager, value, values}
use Rattle.class_defs.specs.Epochs.{classes_of, next_of, upgrade_to}
use Rattle.class_defs.specs.Stored.{Stored, all_written, each_value, in_epoch}
use Rattle.class_defs.specs.Upgrades.{transformed, up, upgrade_of}
use Rattle.class_defs.specs.declared.store.Object.{Object}
use Rattle.class_defs.specs.declared.store.Plain.{Plain}
use Rattle.class_defs.specs.declared.store.Schemas.{Schemas}
use Rattle.class_defs.specs.declared.upgrades.Upgrade.{Upgrade}

pub keys-each : {X Y : Type 0} (f : X → Y) (es : List (Oref × X)) → keys_of (map (λ p. (p.0, f p.1)) es) ≡ keys_of es
keys-each f [] = refl
keys-each f (e ∷ es) = ap (λ ks. e.0 ∷ ks) (keys-each f es)

-- names stay in order where each value has its image
pub sorted-each : {X Y : Type 0} (f : X → Y) (m : Map oref_cmp X) → IsSorted m → IsSorted (each_value f m)
sorted-each f m h = subst (λ ks. IsStrictlySortedBy oref_cmp ks) (sym (keys-each f m.pairs)) h

-- two maps of images are one where they answer alike
pub same_each : {X Y Z : Type 0} (f : X → Z) (g : Y → Z) (m : Map oref_cmp X) (n : Map oref_cmp Y) → IsSorted m → IsSorted n
    → ((x : Oref) → option_map f (get m x) ≡ option_map g (get n x)) → each_value f m ≡ each_value g n
same_each f g m n h k is =
    same_map oref_total oref_exact (each_value f m) (each_value g n) (sorted-each f m h) (sorted-each g n k)
    (λ x. get-each f m x ∙ is x ∙ sym (get-each g n x))

module _ (s : Schemas) (L : Stored) (u : Upgrade) (is : upgrade_to s (suc L.epoch) ≡ Some u) where
  -- what the eager upgrade makes of an object
  abbrev upgraded : Object → Object
  upgraded v = transformed (classes_of s L.epoch) (classes_of s (suc L.epoch)) (get (eager s L).objects) v (upgrade_of (classes_of s L.epoch) u v.class)

  by_upgrade : (o : Obj) (v : Object) (b : Bool) → b ≡ false → v.class ≡ o.class
      → cond b v (transformed (classes_of s L.epoch) (classes_of s (suc L.epoch)) (get (eager s L).objects) v (next_of s L.epoch o.class)) ≡ upgraded v
  by_upgrade o v true h c = cc
  by_upgrade o v false h c =
      ap (λ w. transformed (classes_of s L.epoch) (classes_of s (suc L.epoch)) (get (eager s L).objects) v w)
      (ap (λ w. option_and_then (λ u. upgrade_of (classes_of s L.epoch) u o.class) w) is ∙ ap (λ d. upgrade_of (classes_of s L.epoch) u d) (sym c))

  next_is : (o : Obj) → o.ver ≤ L.epoch → value s L.objects (suc L.epoch) o ≡ upgraded (value s L.objects L.epoch o)
  unfolding value
  next_is o h = by_upgrade o (value s L.objects L.epoch o) (nat_lt L.epoch o.ver) (le-ltb L.epoch o.ver h) (value_class s L.objects L.epoch o)

  each_next : (x : Oref) (o : Option Obj) → get L.objects x ≡ o → ((o : Obj) → get L.objects x ≡ Some o → o.ver ≤ L.epoch)
      → option_map (value s L.objects (suc L.epoch)) o ≡ option_map upgraded (option_map (value s L.objects L.epoch) o)
  each_next x None e h = refl
  each_next x (Some o) e h = ap Some (next_is o (h o e))

  moved : IsSorted L.objects → ((x : Oref) (o : Obj) → get L.objects x ≡ Some o → o.ver ≤ L.epoch)
      → values s L.objects (suc L.epoch) ≡ each_value upgraded (eager s L).objects
  moved sorted h =
      same_each (value s L.objects (suc L.epoch)) upgraded L.objects (eager s L).objects sorted (sorted-each (value s L.objects L.epoch) L.objects sorted)
      (λ x. each_next x (get L.objects x) refl (h x) ∙ ap (option_map upgraded) (sym (get-each (value s L.objects L.epoch) L.objects x)))

-- the next epoch, written as a sum
next : (n : ℕ) → suc n ≡ n + 1
next n = omega arith

pub moves_up : (s : Schemas) (L : Stored) (u : Upgrade) → upgrade_to s (L.epoch + 1) ≡ Some u → IsSorted L.objects
    → ((x : Oref) (o : Obj) → get L.objects x ≡ Some o → o.ver ≤ L.epoch)
    → eager s (record L { epoch = L.epoch + 1 }) ≡ up (classes_of s L.epoch) (classes_of s (L.epoch + 1)) u (eager s L)
unfolding up
moves_up s L u is sorted h =
    let from : upgrade_to s (suc L.epoch) ≡ Some u = subst (λ n. upgrade_to s n ≡ Some u) (sym (next L.epoch)) is in
    subst (λ n. eager s (record L { epoch = n }) ≡ behind n) (next L.epoch)
    (ap (λ (m : Map oref_cmp Object). record { objects = m; epoch = suc L.epoch; roots = L.roots }) (moved s L u from sorted h))
  where
    behind : ℕ → Plain
    behind n = record {
      objects = each_value (λ v. transformed (classes_of s L.epoch) (classes_of s n) (get (eager s L).objects) v (upgrade_of (classes_of s L.epoch) u v.class)) (eager s L).objects;
      epoch = n;
      roots = L.roots;
    }

-- ---- a store all of whose objects were written in its epoch

as_before : (f : Obj → Object) (e : ℕ) → ((v : Object) → f (in_epoch e v) ≡ v) → (es : List (Oref × Object))
    → map (λ (p : Oref × Obj). (p.0, f p.1)) (map (λ (p : Oref × Object). (p.0, in_epoch e p.1)) es) ≡ es
as_before f e h [] = refl
as_before f e h (p ∷ es) =
    ap (λ (v : Object). (p.0, v) ∷ map (λ (p : Oref × Obj). (p.0, f p.1)) (map (λ (p : Oref × Object). (p.0, in_epoch e p.1)) es)) (h p.1)
    ∙ ap (λ qs. p ∷ qs) (as_before f e h es)

pub stands_for_itself : (s : Schemas) (store : Plain) → eager s (all_written store) ≡ store
stands_for_itself s store =
    ap (λ (es : List (Oref × Object)). record { objects = record { pairs = es }; epoch = store.epoch; roots = store.roots })
    (as_before (value s (all_written store).objects store.epoch) store.epoch
    (λ v. value_early s (all_written store).objects store.epoch (in_epoch store.epoch v) (omega arith)) store.objects.pairs)
