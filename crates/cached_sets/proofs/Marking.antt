-- Marks that are taken back leave the sets as they were.
use Rattle.cached_sets.proofs.Restoring.{remove_none, restored_new, restored_old, set_back, set_found, set_same}
use Rattle.cached_sets.specs.Invalid.{Invalid, Invalids, replace}
use Rattle.cached_sets.specs.Undoing.{put_back, undo, unmark}
use Rattle.cached_sets.specs.declared.marked.Marked.{Marked}
use Rattle.std.proofs.Common.{◌≡◌, List, [], ◌++◌, ◌∷◌, ap, refl}
use Rattle.std.specs.BTreeMap.{is_at}
use Rattle.std.specs.Ordering.{nat_cmp}
use Rattle.std.specs.Prelude.{None, Option, Some, ℕ}
use Rattle.thor_value.proofs.NameOrders.{oref_exact, oref_total}
use Rattle.thor_value.specs.FiniteMap.{IsSorted, get, insert}
use Rattle.thor_value.specs.Names.{oref_cmp}
use Rattle.thor_value.specs.declared.names.Oref.{Oref}

-- a set to which an object came
pub put_undone : (m : Invalid) (x : Oref) (k : ℕ) → IsSorted m → (b : Option ℕ) → get m x ≡ b → put_back (insert m x k) x b ≡ m
put_undone m x k h None e = restored_new oref_total oref_exact m x k h e
put_undone m x k h (Some q) e = restored_old oref_total oref_exact m x k q h e

-- a set to which it didn't come
pub not_put : (m : Invalid) (x : Oref) → (b : Option ℕ) → get m x ≡ b → put_back m x b ≡ m
not_put m x None e = ap (λ (es : List (Oref × ℕ)). record { pairs = es }) (remove_none (is_at (oref_cmp x)) m.pairs e)
not_put m x (Some q) e = ap (λ (es : List (Oref × ℕ)). record { pairs = es }) (set_same (is_at (oref_cmp x)) m.pairs q e)

-- one mark taken back
pub unmark_undoes : (N : Invalids) (t : Marked) (m n : Invalid) → get N t.session ≡ Some m → put_back n t.oref t.before ≡ m → unmark (replace N t.session n) t ≡ N
unmark_undoes N t m n e f =
    let a : get (replace N t.session n) t.session ≡ Some n = set_found (is_at (nat_cmp t.session)) N.pairs m n e in
    rw (a, f) (ap (λ (es : List (ℕ × Invalid)). record { pairs = es }) (set_back (is_at (nat_cmp t.session)) N.pairs m n e))

pub undo_last : (N : Invalids) (ts : List Marked) (t : Marked) → undo N (ts ++ t ∷ []) ≡ undo (unmark N t) ts
undo_last N [] t = refl
undo_last N (u ∷ us) t = ap (λ (M : Invalids). unmark M u) (undo_last N us t)
