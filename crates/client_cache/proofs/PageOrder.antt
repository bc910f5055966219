-- The order of the pages held: one comes to the front, one is added.
use Rattle.std.proofs.Common.{◌≡◌, ◌≤◌, ◌-◌, ℕ, zero, suc, true, false, cond, List, [], ◌∷◌, take, length, Option, Some, None, is_some, refl, ap, ◌∙◌}
use native.Mathlib.Omega.{arith}
use Rattle.std.specs.Option.{option_map, option_map_or}
use Rattle.std.specs.Map.{keys_of, lookup, lookup_entry, remove_entry}
use Rattle.std.specs.Set.{remove_key}
use Rattle.std.proofs.lemmas.List.{length-take}
use Rattle.std.proofs.Math.Nat.{min-le_left}
use Rattle.lru.specs.LruCache.{lru_cache, promoted, put_entries}
use Rattle.lru.proofs.Pairs.{lookup-lookup_entry}
use Rattle.lru.proofs.CallerLemmas.{Contains-lookup_entry}
use Rattle.client_cache.specs.Copies.{forward}
use Rattle.client_cache.specs.Pages.{same_page}
use Rattle.client_cache.specs.declared.page_name.PageName.{PageName}
use Rattle.client_cache.proofs.PageLookups.{one-page}

pub whole : {X : Type 0} (n : ℕ) (xs : List X) → length xs ≤ n → take n xs ≡ xs
whole n [] h = take-nothing n
  where
    take-nothing : {X : Type 0} (k : ℕ) → take {A = X} k [] ≡ []
    take-nothing zero = refl
    take-nothing (suc k) = refl
whole zero (x ∷ xs) h = absurd (omega (arith, h))
whole (suc n) (x ∷ xs) h = ap (λ l. x ∷ l) (whole n xs (omega (arith, h)))

-- of the first n the first m, where m is no less
pub taken-twice : {X : Type 0} (m n : ℕ) (es front all : List X) → n ≤ m → front ≡ take n es → all ≡ take m front → all ≡ take n es
taken-twice m n es front all fits f a = a ∙ whole m front (rw f (omega (arith, fits, length-take n es, min-le_left n (length es)))) ∙ f

module _ {V : Type 0} (p : PageName) where
  keys-left : (es : List (PageName × V)) → keys_of (remove_entry (same_page p) es) ≡ remove_key (same_page p) (keys_of es)
  keys-left [] = refl
  keys-left (e ∷ es) = (elim (same_page p e.0) as (λ b. same_page p e.0 ≡ b → keys_of (remove_entry (same_page p) (e ∷ es)) ≡ remove_key (same_page p) (keys_of (e ∷ es))) [
    | true ↦ λ t. rw t refl
    | false ↦ λ t. rw t (ap (λ l. e.0 ∷ l) (keys-left es))
  ]) refl

  -- a page that isn't held leaves nothing
  none-leaves : (es : List (PageName × V)) → is_some (lookup (same_page p) es) ≡ false → remove_key (same_page p) (keys_of es) ≡ keys_of es
  none-leaves [] h = refl
  none-leaves (e ∷ es) h = (elim (same_page p e.0) as (λ b. same_page p e.0 ≡ b → remove_key (same_page p) (keys_of (e ∷ es)) ≡ keys_of (e ∷ es)) [
    | true ↦ λ t. let k = rw t at h in cc
    | false ↦ λ t. rw t (ap (λ l. e.0 ∷ l) (none-leaves es (rw t at h)))
  ]) refl

  pub order_added : (w : V) (es : List (PageName × V)) → is_some (lookup (same_page p) es) ≡ false → keys_of ((p, w) ∷ es) ≡ forward p (keys_of es)
  order_added w es h = rw (none-leaves es h) refl

  promotes : (es : List (PageName × V)) (o : Option (PageName × V)) → lookup_entry (same_page p) es ≡ o → is_some (option_map (λ e. e.1) o) ≡ true
      → keys_of (option_map_or (λ e. e ∷ remove_entry (same_page p) es) o es) ≡ forward p (keys_of es)
  promotes es None h some = cc
  promotes es (Some e) h some = rw (keys-left es, ← one-page p e.0 (Contains-lookup_entry (same_page p) es e h).1) refl

  promotes-none : (es : List (PageName × V)) (o : Option (PageName × V)) → is_some (option_map (λ e. e.1) o) ≡ false
      → keys_of (option_map_or (λ e. e ∷ remove_entry (same_page p) es) o es) ≡ keys_of es
  promotes-none es None none = refl
  promotes-none es (Some e) none = cc

  -- a page that is held comes to the front
  pub order-promoted : (es : List (PageName × V)) → keys_of (promoted (same_page p) es) ≡ cond (is_some (lookup (same_page p) es)) (forward p (keys_of es)) (keys_of es)
  order-promoted es = (elim (is_some (lookup (same_page p) es)) as (λ b. is_some (lookup (same_page p) es) ≡ b → keys_of (promoted (same_page p) es) ≡ cond (is_some (lookup (same_page p) es)) (forward p (keys_of es)) (keys_of es)) [
    | true ↦ λ t. rw t (promotes es (lookup_entry (same_page p) es) refl (rw (lookup-lookup_entry (same_page p) es) t))
    | false ↦ λ t. rw t (promotes-none es (lookup_entry (same_page p) es) (rw (lookup-lookup_entry (same_page p) es) t))
  ]) refl

  puts : (w : V) (cap : ℕ) (es : List (PageName × V)) (o : Option (PageName × V)) → is_some (option_map (λ e. e.1) o) ≡ false → length es ≤ cap - 1
      → option_map_or (λ e. (e.0, w) ∷ remove_entry (same_page p) es) o ((p, w) ∷ take (cap - 1) es) ≡ (p, w) ∷ es
  puts w cap es None h fits = ap (λ l. (p, w) ∷ l) (whole (cap - 1) es fits)
  puts w cap es (Some e) h fits = cc

  -- a page that isn't held is put first, where there is room
  pub put-added : (w : V) (cap : ℕ) (es : List (PageName × V)) → is_some (lookup (same_page p) es) ≡ false → length es ≤ cap - 1
      → put_entries same_page (lru_cache es cap) p w ≡ (p, w) ∷ es
  put-added w cap es h fits = puts w cap es (lookup_entry (same_page p) es) (rw (lookup-lookup_entry (same_page p) es) h) fits
