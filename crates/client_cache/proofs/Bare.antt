-- A page without copies leaves, and nothing more is told of it than before.
use Rattle.std.proofs.Common.{◌≡◌, ℕ, zero, suc, true, false, List, [], ◌∷◌, Option, Some, None, is_none, refl, ap}
use Rattle.std.specs.List.{IsDistinct, list_all}
use Rattle.std.specs.Map.{keys_of, lookup, remove_entry}
use Rattle.std.specs.Option.{option_map_or}
use Rattle.std.proofs.lemmas.Map.{lookup-remove_entry}
use Rattle.std.proofs.lemmas.Bool.{and_parts}
use Rattle.thor_value.specs.declared.names.Oref.{Oref}
use Rattle.thor_value.specs.declared.values.Obj.{Obj}
use Rattle.client_cache.specs.Copies.{Held, copy_by}
use Rattle.client_cache.specs.Pages.{page_of, same_page}
use Rattle.client_cache.specs.Slots.{is_bare, kept_in, written_in}
use Rattle.client_cache.specs.declared.page_copies.Slot.{Slot}
use Rattle.client_cache.specs.declared.page_name.PageName.{PageName}
use Rattle.client_cache.proofs.PageLookups.{names-are-equal, one-page}

none-of : (o : Option Obj) → is_none o ≡ true → o ≡ None
none-of None h = refl
none-of (Some x) h = cc

pub bare-kept : (slots : List Slot) (s : ℕ) → list_all is_bare slots ≡ true → kept_in slots s ≡ None
bare-kept [] s h = refl
bare-kept (x ∷ xs) zero h = let b = and_parts (is_bare x) (list_all is_bare xs) h in none-of x.kept (and_parts (is_none x.kept) (is_none x.written) b.0).0
bare-kept (x ∷ xs) (suc s) h = bare-kept xs s (and_parts (is_bare x) (list_all is_bare xs) h).1

pub bare-written : (slots : List Slot) (s : ℕ) → list_all is_bare slots ≡ true → written_in slots s ≡ None
bare-written [] s h = refl
bare-written (x ∷ xs) zero h = let b = and_parts (is_bare x) (list_all is_bare xs) h in none-of x.written (and_parts (is_none x.kept) (is_none x.written) b.0).1
bare-written (x ∷ xs) (suc s) h = bare-written xs s (and_parts (is_bare x) (list_all is_bare xs) h).1

module _ (g : List Slot → ℕ → Option Obj) (p : PageName) (held : Held) where
  left-of : (slots : List Slot) → IsDistinct same_page (keys_of held) → lookup (same_page p) held ≡ Some slots → ((s : ℕ) → g slots s ≡ None)
      → (x : Oref) → copy_by g (remove_entry (same_page p) held) x ≡ copy_by g held x
  left-of slots apart there bare x = (elim (same_page p (page_of x)) as (λ b. same_page p (page_of x) ≡ b → copy_by g (remove_entry (same_page p) held) x ≡ copy_by g held x) [
    | true ↦ λ t. rw (lookup-remove_entry names-are-equal (same_page p) (λ k l m. ap (λ n. same_page n l) (one-page p k m)) (page_of x) held apart, t, ← one-page p (page_of x) t, there, bare x.slot) refl
    | false ↦ λ t. rw (lookup-remove_entry names-are-equal (same_page p) (λ k l m. ap (λ n. same_page n l) (one-page p k m)) (page_of x) held apart, t) refl
  ]) refl

  by_slots : (o : Option (List Slot)) → lookup (same_page p) held ≡ o → IsDistinct same_page (keys_of held) → option_map_or (list_all is_bare) o false ≡ true
      → ((slots : List Slot) (s : ℕ) → list_all is_bare slots ≡ true → g slots s ≡ None)
      → (x : Oref) → copy_by g (remove_entry (same_page p) held) x ≡ copy_by g held x
  by_slots None there apart bare none x = cc
  by_slots (Some slots) there apart bare none x = left-of slots apart there (λ s. none slots s bare) x

  -- nothing more is told where a bare page has left
  pub told-left : IsDistinct same_page (keys_of held) → option_map_or (list_all is_bare) (lookup (same_page p) held) false ≡ true
      → ((slots : List Slot) (s : ℕ) → list_all is_bare slots ≡ true → g slots s ≡ None)
      → (x : Oref) → copy_by g (remove_entry (same_page p) held) x ≡ copy_by g held x
  told-left apart bare = by_slots (lookup (same_page p) held) refl apart bare
