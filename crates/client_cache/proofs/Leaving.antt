-- Pages of a repository leave, one after the other.
use Rattle.std.proofs.Common.{◌≡◌, ◌<◌, ℕ, true, false, nat_eq, [], ◌∷◌, length, refl, ap, subst}
use native.Mathlib.Omega.{arith}
use Rattle.std.specs.Map.{remove_entry}
use Rattle.std.proofs.lemmas.Bool.{eq-eqb}
use Rattle.client_cache.specs.Copies.{Held, elsewhere, holds}
use Rattle.client_cache.specs.Pages.{same_page}
use Rattle.client_cache.specs.declared.page_name.PageName.{PageName}
use Rattle.client_cache.proofs.PageLookups.{one-page}

-- one page fewer
pub one-fewer : (p : PageName) (held : Held) → holds held p ≡ true → length (remove_entry (same_page p) held) < length held
one-fewer p [] h = cc
one-fewer p (e ∷ es) h = (elim (same_page p e.0) as (λ b. same_page p e.0 ≡ b → length (remove_entry (same_page p) (e ∷ es)) < length (e ∷ es)) [
  | true ↦ λ t. rw t (omega arith)
  | false ↦ λ t. let r = one-fewer p es (rw t at h) in rw t (omega (arith, r))
]) refl

-- a page of the repository is none of those elsewhere
pub still-elsewhere : (repo : ℕ) (p : PageName) (held : Held) → p.repo ≡ repo → elsewhere repo (remove_entry (same_page p) held) ≡ elsewhere repo held
still-elsewhere repo p [] of = refl
still-elsewhere repo p (e ∷ es) of = (elim (same_page p e.0) as (λ b. same_page p e.0 ≡ b → elsewhere repo (remove_entry (same_page p) (e ∷ es)) ≡ elsewhere repo (e ∷ es)) [
  | true ↦ λ t. let there : nat_eq e.0.repo repo ≡ true = eq-eqb e.0.repo repo (subst (λ k. k.repo ≡ repo) (one-page p e.0 t) of) in rw (t, there) refl
  | false ↦ λ t. (elim (nat_eq e.0.repo repo) as (λ b. nat_eq e.0.repo repo ≡ b → elsewhere repo (remove_entry (same_page p) (e ∷ es)) ≡ elsewhere repo (e ∷ es)) [
    | true ↦ λ s. rw (t, s) (still-elsewhere repo p es of)
    | false ↦ λ s. rw (t, s) (ap (λ l. e ∷ l) (still-elsewhere repo p es of))
  ]) refl
]) refl
