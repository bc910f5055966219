-- The copies of a page behind changes, slot by slot.
use Rattle.std.proofs.Common.{◌≡◌, ℕ, ◌+◌, ◌<◌, ◌≤◌, true, false, cond, nat_eq, nat_lt, List, Option, Some, None, is_some, refl, ap, sym, ◌∙◌, inl, inr}
use native.Mathlib.Omega.{arith}
use Rattle.std.proofs.lemmas.Bool.{cases_lt, eqb-false, eqb-true, le-ltb, lt-ltb, ltb-false}
use Rattle.client_cache.specs.Changes.{behind, change_in, kept_behind}
use Rattle.client_cache.specs.Slots.{kept_in}
use Rattle.client_cache.specs.declared.changes.Change.{Change}
use Rattle.client_cache.specs.declared.changes.Change.TheVariants.{Gone}
use Rattle.client_cache.specs.declared.page_copies.Slot.{Slot}

still_below : (s k : ℕ) → (k ≡ s → ⊥) → nat_lt s k ≡ nat_lt s (k + 1)
still_below s k apart = elim (cases_lt s k) [
  | inl below ↦ lt-ltb s k below ∙ sym (lt-ltb s (k + 1) (omega (arith, below)))
  | inr past ↦ le-ltb s k past ∙ sym (le-ltb s (k + 1) (omega (arith, past, apart)))
]

-- one more slot
pub changed_next : (changes : List Change) (before slots next : List Slot) (k : ℕ) (change : Change)
    → ((s : ℕ) → kept_in slots s ≡ cond (nat_lt s k) (kept_behind changes (Some before) s) (kept_in before s))
    → change ≡ change_in changes k
    → ((s : ℕ) → kept_in next s ≡ cond (nat_eq k s) (behind change (kept_in slots k)) (kept_in slots s))
    → (s : ℕ) → kept_in next s ≡ cond (nat_lt s (k + 1)) (kept_behind changes (Some before) s) (kept_in before s)
changed_next changes before slots next k change so_far is one s = (elim (nat_eq k s) as (λ t. nat_eq k s ≡ t → kept_in next s ≡ cond (nat_lt s (k + 1)) (kept_behind changes (Some before) s) (kept_in before s)) [
  | true ↦ λ t.
      let at : k ≡ s = eqb-true k s t in
      let here : kept_in slots k ≡ kept_in before k = so_far k ∙ rw (le-ltb k k (omega arith)) refl in
      let made : kept_in next s ≡ behind change (kept_in slots k) = one s ∙ rw t refl in
      let told : behind change (kept_in slots k) ≡ kept_behind changes (Some before) k = ap (λ (x : Change). behind x (kept_in slots k)) is ∙ ap (behind (change_in changes k)) here in
      rw (lt-ltb s (k + 1) (omega (arith, at))) (made ∙ told ∙ ap (kept_behind changes (Some before)) at)
  | false ↦ λ t.
      let same : kept_in next s ≡ kept_in slots s = one s ∙ rw t refl in
      same ∙ so_far s ∙ rw (still_below s k (eqb-false k s t)) refl
]) refl

-- all slots
pub changed_all : (changes : List Change) (before slots : List Slot) (k : ℕ) → 12 ≤ k
    → ((s : ℕ) → kept_in slots s ≡ cond (nat_lt s k) (kept_behind changes (Some before) s) (kept_in before s))
    → ((s : ℕ) → 12 ≤ s → change_in changes s ≡ Gone) → ((s : ℕ) → 12 ≤ s → kept_in before s ≡ None)
    → (s : ℕ) → kept_in slots s ≡ kept_behind changes (Some before) s
changed_all changes before slots k all so_far gone none s = (elim (nat_lt s k) as (λ t. nat_lt s k ≡ t → kept_in slots s ≡ kept_behind changes (Some before) s) [
  | true ↦ λ t. so_far s ∙ rw t refl
  | false ↦ λ t.
      let past : k ≤ s = ltb-false s k t in
      let far : 12 ≤ s = omega (arith, past, all) in
      let told : None ≡ kept_behind changes (Some before) s = sym (ap (λ (x : Change). behind x (kept_in before s)) (gone s far)) in
      so_far s ∙ rw t (none s far) ∙ told
]) refl

-- a page that isn't held has no slots
pub not_there : (o : Option (List Slot)) → false ≡ is_some o → None ≡ o
not_there None is = refl
not_there (Some slots) is = cc
