-- What a look finds, where one write becomes the copy.
use Rattle.std.proofs.Common.{◌≡◌, ℕ, true, false, cond, nat_eq, List, Option, Some, None, refl, sym, ap, ◌∙◌}
use Rattle.std.specs.Map.{lookup}
use Rattle.std.specs.Option.{option_or, option_and_then}
use Rattle.std.proofs.lemmas.Bool.{eqb-true, and_parts}
use Rattle.thor_value.specs.declared.names.Oref.{Oref}
use Rattle.thor_value.specs.declared.values.Obj.{Obj}
use Rattle.client_cache.specs.Copies.{Held, copy_by}
use Rattle.client_cache.specs.Pages.{page_of, same_name, same_page}
use Rattle.client_cache.specs.Slots.{kept_in, seen_in, written_in}
use Rattle.client_cache.specs.declared.page_copies.Slot.{Slot}
use Rattle.client_cache.proofs.PageLookups.{one-page}

seen-by : (s : ℕ) (o : Option (List Slot))
    → option_and_then (λ slots. seen_in slots s) o ≡ option_or (option_and_then (λ slots. written_in slots s) o) (option_and_then (λ slots. kept_in slots s) o)
seen-by s None = refl
seen-by s (Some slots) = refl

pub seen_told : (held : Held) (x : Oref) → copy_by seen_in held x ≡ option_or (copy_by written_in held x) (copy_by kept_in held x)
seen_told held x = seen-by x.slot (lookup (same_page (page_of x)) held)

abbrev at : ℕ → ℕ → ℕ → Oref
at r p s = record { repo = r; page = p; slot = s }

abbrev seen-at : Held → ℕ → ℕ → ℕ → Option Obj
seen-at held r p s = copy_by seen_in held (at r p s)

-- two names of one object
pub one-name : (x y : Oref) → same_name x y ≡ true → x ≡ y
one-name x y e = let h = and_parts (same_page (page_of x) (page_of y)) (nat_eq x.slot y.slot) e in
    let p = one-page (page_of x) (page_of y) h.0 in
    ap (λ k. at k.repo k.page x.slot) p ∙ ap (λ k. at y.repo y.page k) (eqb-true x.slot y.slot h.1)

module _ (old new : Held) (y : Oref) where
  pub settled_one : ((x : Oref) → copy_by kept_in new x ≡ cond (same_name y x) (copy_by seen_in old y) (copy_by kept_in old x))
      → ((x : Oref) → copy_by written_in new x ≡ cond (same_name y x) None (copy_by written_in old x))
      → (x : Oref) → copy_by seen_in new x ≡ copy_by seen_in old x
  settled_one kept written x = (elim (same_name y x) as (λ b. same_name y x ≡ b → copy_by seen_in new x ≡ copy_by seen_in old x) [
    | true ↦ λ t. rw (seen_told new x, kept x, written x, t) (ap (λ k. copy_by seen_in old k) (one-name y x t))
    | false ↦ λ t. rw (seen_told new x, kept x, written x, t) (sym (seen_told old x))
  ]) refl
