-- What is told where pages have left.
use Rattle.std.proofs.Common.{◌≡◌, ℕ, zero, suc, Bool, true, false, cond, not, ◌&&◌, nat_eq, List, [], ◌∷◌, take, Option, Some, None, is_some, refl, sym, ap}
use Rattle.std.specs.BTreeMap.{is_at}
use Rattle.std.specs.List.{filter, list_any}
use Rattle.std.specs.Map.{lookup}
use Rattle.std.specs.Option.{option_and_then}
use Rattle.std.proofs.lemmas.Map.Entries.{lookup-filter-keys}
use Rattle.std.proofs.lemmas.Map.Views.{any-filter_same, tells_apart}
use Rattle.thor_value.proofs.NameOrders.{oref_exact}
use Rattle.thor_value.specs.Names.{oref_cmp}
use Rattle.thor_value.specs.declared.names.Oref.{Oref}
use Rattle.thor_value.specs.declared.values.Obj.{Obj}
use Rattle.client_cache.specs.Copies.{Held, elsewhere, copy_by}
use Rattle.client_cache.specs.Pages.{page_of, same_name, same_page}
use Rattle.client_cache.specs.declared.page_copies.Slot.{Slot}
use Rattle.client_cache.proofs.PageLookups.{one-page}

module _ (g : List Slot → ℕ → Option Obj) where
  -- nothing is told of the objects of a repository whose pages have left
  pub told_elsewhere : (repo : ℕ) (held : Held) (x : Oref) → copy_by g (elsewhere repo held) x ≡ cond (nat_eq x.repo repo) None (copy_by g held x)
  told_elsewhere repo held x =
      rw (lookup-filter-keys (same_page (page_of x)) (λ k. not (nat_eq k.repo repo)) (not (nat_eq x.repo repo)) (λ k t. ap (λ n. not (nat_eq n.repo repo)) (sym (one-page (page_of x) k t))) held)
      ((elim (nat_eq x.repo repo) as (λ b. option_and_then (λ slots. g slots x.slot) (cond (not b) (lookup (same_page (page_of x)) held) None) ≡ cond b None (copy_by g held x)) [
        | true ↦ refl
        | false ↦ refl
      ]))

  -- where nothing is told of an object, nothing is told by some of the pages
  pub none_of_some : (n : ℕ) (held : Held) (x : Oref) → is_some (copy_by g held x) ≡ false → is_some (copy_by g (take n held) x) ≡ false
  none_of_some zero held x h = refl
  none_of_some (suc n) [] x h = h
  none_of_some (suc n) (e ∷ es) x h = (elim (same_page (page_of x) e.0) as (λ b. same_page (page_of x) e.0 ≡ b → is_some (copy_by g (take (suc n) (e ∷ es)) x) ≡ false) [
    | true ↦ λ t. rw t (rw t at h)
    | false ↦ λ t. rw t (none_of_some n es x (rw t at h))
  ]) refl

-- the names that the try has written, without those of a repository
pub written_elsewhere : (repo : ℕ) (written : List Oref) (x : Oref)
    → list_any (is_at (oref_cmp x)) (filter (λ y. not (nat_eq y.repo repo)) written) ≡ (not (nat_eq x.repo repo) && list_any (is_at (oref_cmp x)) written)
written_elsewhere repo written x = any-filter_same (is_at (oref_cmp x)) (λ y. not (nat_eq y.repo repo)) (not (nat_eq x.repo repo))
    (λ y t. ap (λ n. not (nat_eq n.repo repo)) (sym (tells_apart oref_exact x y t))) written

-- the same without some names
pub written_without : (names written : List Oref) (x : Oref)
    → list_any (is_at (oref_cmp x)) (filter (λ y. not (list_any (λ z. same_name z y) names)) written) ≡ (not (list_any (λ z. same_name z x) names) && list_any (is_at (oref_cmp x)) written)
written_without names written x = any-filter_same (is_at (oref_cmp x)) (λ y. not (list_any (λ z. same_name z y) names)) (not (list_any (λ z. same_name z x) names))
    (λ y t. ap (λ (n : Oref). not (list_any (λ z. same_name z n) names)) (sym (tells_apart oref_exact x y t))) written

pub some_unless : (b : Bool) (o : Option Obj) → is_some (cond b None o) ≡ (not b && is_some o)
some_unless true o = refl
some_unless false o = refl

-- nothing here and nothing there
pub nothing_both : (o p : Option Obj) → is_some o ≡ false → is_some p ≡ false → p ≡ o
nothing_both None None h i = refl
nothing_both None (Some y) h i = cc
nothing_both (Some x) p h i = cc
