-- The slots of a page that have bytes, and whether objects are named by them.
use Rattle.std.proofs.Common.{◌≡◌, ℕ, zero, suc, ◌+◌, ◌-◌, ◌<◌, ◌≤◌, List, [], ◌∷◌, length, Option, Some, None, Bool, true, false, slice_get, refl, sym, subst, ◌∙◌, arith, if◌then◌else◌}
use Rattle.std.specs.BTreeMap.{is_at}
use Rattle.std.specs.Cmp.{eq_by_cmp_equiv}
use Rattle.std.specs.List.{AllByRecursion}
use Rattle.std.specs.Map.{lookup}
use Rattle.std.specs.Ordering.{nat_cmp}
use Rattle.std.proofs.lemmas.Cmp.{nat_cmp_total}
use Rattle.std.proofs.lemmas.Map.Lookups.{exact_unsigned}
use Rattle.std.proofs.lemmas.Map.Views.{tells_apart}
use Rattle.page_format.specs.Pages.{Contents, Rises}
use Rattle.thor_value.specs.declared.values.Obj.{Obj}
use Rattle.client_cache.specs.Placing.{Brings, HasName}

abbrev pub Pairs : Type 0
Pairs = List (ℕ × List ℕ)

-- ---- one pair after the other

pub all_at : (pairs : Pairs) (k : ℕ) (q : ℕ × List ℕ) → AllByRecursion HasName pairs → slice_get pairs k ≡ Some q → HasName q
all_at [] k q all is = cc
all_at (p ∷ pairs) zero q all is = let same : p ≡ q = cc in subst HasName same all.0
all_at (p ∷ pairs) (suc k) q all is = all_at pairs k q all.1 is

-- where slots rise and the last is a name, all are
pub all_below : (low : ℕ) (pairs : Pairs) (k : ℕ) (q : ℕ × List ℕ) → Rises low pairs → slice_get pairs k ≡ Some q → length pairs ≤ k + 1 → q.0 < 12 → AllByRecursion HasName pairs
all_below low [] k q rises is last here = cc
all_below low (p ∷ []) zero q rises is last here = let same : p ≡ q = cc in (subst HasName (sym same) here, tt)
all_below low (p ∷ []) (suc k) q rises is last here = cc
all_below low (p ∷ r ∷ pairs) zero q rises is last here = absurd (omega (arith, last))
all_below low (p ∷ r ∷ pairs) (suc k) q rises is last here =
    let more = all_below (suc p.0) (r ∷ pairs) k q rises.1 is (omega (arith, last)) here in
    (omega (arith, rises.1.0, more.0), more)

-- the last one tells whether all are named
pub last_tells : (pairs : Pairs) (count : ℕ) (slot : ℕ) (bytes : List ℕ) → Rises 0 pairs → count ≡ length pairs → Some (slot, bytes) ≡ slice_get pairs (count - 1) → (slot < 12 → AllByRecursion HasName pairs) × (AllByRecursion HasName pairs → slot < 12)
last_tells pairs count slot bytes rises long is = (
  λ here. all_below 0 pairs (count - 1) (slot, bytes) rises (sym is) (omega (arith, long)) here,
  λ all. all_at pairs (count - 1) (slot, bytes) all (sym is),
)

none_within : (pairs : Pairs) (k : ℕ) → k < length pairs → slice_get pairs k ≡ None → ⊥
none_within [] k within is = omega (arith, within)
none_within (p ∷ pairs) zero within is = cc
none_within (p ∷ pairs) (suc k) within is = none_within pairs k (omega (arith, within)) is

-- where there are some there is a last one
pub last_there : (pairs : Pairs) (count : ℕ) → count ≡ length pairs → (count ≡ 0 → ⊥) → None ≡ slice_get pairs (count - 1) → ⊥
last_there pairs count long some is = none_within pairs (count - 1) (omega (arith, long, some)) (sym is)

all_by : (pairs : Pairs) → ((k : ℕ) (q : ℕ × List ℕ) → slice_get pairs k ≡ Some q → HasName q) → AllByRecursion HasName pairs
all_by [] h = tt
all_by (p ∷ pairs) h = (h zero p refl, all_by pairs (λ k q is. h (suc k) q is))

-- ---- what a look for a slot finds

past_by : (t : Bool) (q : ℕ × List ℕ) (rest : Option (List ℕ)) (s : ℕ) → (t ≡ true → s ≡ q.0) → q.0 < 12 → 12 ≤ s → rest ≡ None → (if t then Some q.1 else rest) ≡ None
past_by true q rest s same here far none = let e = same refl in absurd (omega (arith, e, here, far))
past_by false q rest s same here far none = none

-- nothing behind those that objects are named by
pub past_named : (pairs : Pairs) (s : ℕ) → AllByRecursion HasName pairs → 12 ≤ s → lookup (is_at (nat_cmp s)) pairs ≡ None
past_named [] s all far = refl
past_named (q ∷ pairs) s all far = past_by (is_at (nat_cmp s) q.0) q (lookup (is_at (nat_cmp s)) pairs) s (tells_apart exact_unsigned s q.0) all.0 far (past_named pairs s all.1 far)

itself : (s : ℕ) → is_at (nat_cmp s) s ≡ true
itself s = (eq_by_cmp_equiv nat_cmp_total).refl s

there_by : (t : Bool) (b : List ℕ) (rest : Option (List ℕ)) → (if t then Some b else rest) ≡ None → (t ≡ true → ⊥) × (rest ≡ None)
there_by true b rest none = cc
there_by false b rest none = (λ e. cc, none)

-- a pair is found
there : (pairs : Pairs) (k : ℕ) (q : ℕ × List ℕ) → slice_get pairs k ≡ Some q → lookup (is_at (nat_cmp q.0)) pairs ≡ None → ⊥
there [] k q is none = cc
there (p ∷ pairs) zero q is none =
    let same : p ≡ q = cc in
    (there_by (is_at (nat_cmp q.0) p.0) p.1 (lookup (is_at (nat_cmp q.0)) pairs) none).0 (subst (λ (x : ℕ × List ℕ). is_at (nat_cmp q.0) x.0 ≡ true) (sym same) (itself q.0))
there (p ∷ pairs) (suc k) q is none = there pairs k q is (there_by (is_at (nat_cmp q.0) p.0) p.1 (lookup (is_at (nat_cmp q.0)) pairs) none).1

-- a page that brings objects has names for all of them
pub all_named : (c : Contents) (objects : ℕ → Option Obj) → Brings c objects → AllByRecursion HasName c.objects.pairs
all_named c objects b = all_by c.objects.pairs one
  where
    one : (k : ℕ) (q : ℕ × List ℕ) → slice_get c.objects.pairs k ≡ Some q → HasName q
    one k q is = by (objects q.0) refl
      where
        by : (o : Option Obj) → objects q.0 ≡ o → HasName q
        by (Some o) e = (b.fits q.0 o e).0
        by None e = absurd (there c.objects.pairs k q is (b.slots q.0 ∙ rw e refl))
