-- What isn't seen is no copy.
use Rattle.client_cache.specs.Copies.{Contents, holds, kept, seen}
use Rattle.client_cache.specs.Pages.{page_of, same_page}
use Rattle.client_cache.specs.Slots.{kept_in, seen_in, written_in}
use Rattle.client_cache.specs.declared.page_copies.Slot.{Slot}
use Rattle.std.proofs.Common.{List, refl, ℕ, ◌≡◌}
use Rattle.std.specs.Map.{lookup}
use Rattle.std.specs.Option.{option_or}
use Rattle.std.specs.Prelude.{None, Option, Some, false, is_some, option_and_then}
use Rattle.thor_value.specs.declared.names.Oref.{Oref}
use Rattle.thor_value.specs.declared.values.Obj.{Obj}

no_second : (a b : Option Obj) → option_or a b ≡ None → b ≡ None
no_second None b h = h
no_second (Some o) b h = cc

none_in : (s : ℕ) (slots : Option (List Slot)) → option_and_then (λ x. seen_in x s) slots ≡ None → option_and_then (λ x. kept_in x s) slots ≡ None
none_in s None h = refl
none_in s (Some x) h = no_second (written_in x s) (kept_in x s) h

-- nothing is seen in the slot
pub not_seen : (c : Contents) (x : Oref) → seen c x ≡ None → kept c x ≡ None
not_seen c x h = none_in x.slot (lookup (same_page (page_of x)) c.held) h

none_of : (s : ℕ) (slots : Option (List Slot)) → is_some slots ≡ false → option_and_then (λ x. kept_in x s) slots ≡ None
none_of s None h = refl
none_of s (Some x) h = cc

-- the page isn't held
pub no_page : (c : Contents) (x : Oref) → holds c.held (page_of x) ≡ false → kept c x ≡ None
no_page c x h = none_of x.slot (lookup (same_page (page_of x)) c.held) h
