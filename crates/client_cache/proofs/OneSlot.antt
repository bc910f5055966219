-- What is told of objects where one slot of one page has changed.
use Rattle.std.proofs.Common.{◌≡◌, ℕ, true, false, cond, nat_eq, List, Option, Some, refl, ap, subst}
use Rattle.std.specs.Map.{lookup, set_value}
use Rattle.std.proofs.lemmas.Map.{lookup-set_value}
use Rattle.thor_value.specs.declared.names.Oref.{Oref}
use Rattle.thor_value.specs.declared.values.Obj.{Obj}
use Rattle.client_cache.specs.Copies.{Held, copy_by}
use Rattle.client_cache.specs.Pages.{page_of, same_name, same_page}
use Rattle.client_cache.specs.declared.page_copies.Slot.{Slot}
use Rattle.client_cache.specs.declared.page_name.PageName.{PageName}
use Rattle.client_cache.proofs.PageLookups.{names-are-equal, one-page}

-- the page p of what is held has other slots: what a look-up finds
looked : (held : Held) (p q : PageName) (slots w : List Slot) → lookup (same_page p) held ≡ Some slots
    → lookup (same_page q) (set_value (same_page p) held w) ≡ cond (same_page p q) (Some w) (lookup (same_page q) held)
looked held p q slots w h = lookup-set_value names-are-equal (same_page p) (λ x y t. ap (λ k. same_page k y) (one-page p x t)) q w held (rw h refl)

module _ (g : List Slot → ℕ → Option Obj) (held : Held) where
  -- the slots of a page tell what they tell, and the others as before
  pub page-told : (p : PageName) (slots w : List Slot) → lookup (same_page p) held ≡ Some slots
      → (y : Oref) → copy_by g (set_value (same_page p) held w) y ≡ cond (same_page p (page_of y)) (g w y.slot) (copy_by g held y)
  page-told p slots w h y = (elim (same_page p (page_of y)) as (λ b. same_page p (page_of y) ≡ b → copy_by g (set_value (same_page p) held w) y ≡ cond (same_page p (page_of y)) (g w y.slot) (copy_by g held y)) [
    | true ↦ λ t. rw (looked held p (page_of y) slots w h, t) refl
    | false ↦ λ t. rw (looked held p (page_of y) slots w h, t) refl
  ]) refl

  -- the slot of x tells v, and the others as before
  pub one-told : (x : Oref) (slots w : List Slot) (v : Option Obj) → lookup (same_page (page_of x)) held ≡ Some slots
      → ((s : ℕ) → g w s ≡ cond (nat_eq x.slot s) v (g slots s))
      → (y : Oref) → copy_by g (set_value (same_page (page_of x)) held w) y ≡ cond (same_name x y) v (copy_by g held y)
  one-told x slots w v h each y = (elim (same_page (page_of x) (page_of y)) as (λ b. same_page (page_of x) (page_of y) ≡ b → copy_by g (set_value (same_page (page_of x)) held w) y ≡ cond (same_name x y) v (copy_by g held y)) [
    | true ↦ λ t. let found : lookup (same_page (page_of y)) held ≡ Some slots = subst (λ k. lookup (same_page k) held ≡ Some slots) (one-page (page_of x) (page_of y) t) h in
        rw (looked held (page_of x) (page_of y) slots w h, t, found) (each y.slot)
    | false ↦ λ t. rw (looked held (page_of x) (page_of y) slots w h, t) refl
  ]) refl

  -- all slots tell as before
  pub same-told : (p : PageName) (slots w : List Slot) → lookup (same_page p) held ≡ Some slots
      → ((s : ℕ) → g w s ≡ g slots s)
      → (y : Oref) → copy_by g (set_value (same_page p) held w) y ≡ copy_by g held y
  same-told p slots w h each y = (elim (same_page p (page_of y)) as (λ b. same_page p (page_of y) ≡ b → copy_by g (set_value (same_page p) held w) y ≡ copy_by g held y) [
    | true ↦ λ t. let found : lookup (same_page (page_of y)) held ≡ Some slots = subst (λ k. lookup (same_page k) held ≡ Some slots) (one-page p (page_of y) t) h in
        rw (looked held p (page_of y) slots w h, t, found) (each y.slot)
    | false ↦ λ t. rw (looked held p (page_of y) slots w h, t) refl
  ]) refl
