-- Looking a page up among the pages held.
use Rattle.std.proofs.Common.{◌≡◌, ℕ, Bool, true, false, cond, nat_eq, List, [], ◌∷◌, Option, Some, None, refl, sym, ap, subst, ◌∙◌}
use Rattle.std.specs.Cmp.{IsEquivalence, nat_eq_equiv}
use Rattle.std.specs.Option.{option_map_or, unwrap_or}
use Rattle.std.specs.Prelude.{slice_get}
use Rattle.std.specs.Set.{remove_key}
use Rattle.std.specs.Map.{keys_of, lookup, lookup_entry, remove_entry}
use Rattle.std.proofs.lemmas.Bool.{eqb-true, eq-eqb, and_parts}
use Rattle.lru.specs.LruCache.{promoted}
use Rattle.lru.proofs.Pairs.{lookup-lookup_entry}
use Rattle.lru.proofs.CallerLemmas.{Contains-lookup_entry}
use Rattle.client_cache.specs.Copies.{forward}
use Rattle.client_cache.specs.Pages.{same_page}
use Rattle.client_cache.specs.declared.page_name.PageName.{PageName}

abbrev named : ℕ → ℕ → PageName
named r n = record { repo = r; page = n }

joined : (a b c d : ℕ) → a ≡ b → c ≡ d → named a c ≡ named b d
joined a b c d e f = rw (e, f) refl

pub one-page : (p q : PageName) → same_page p q ≡ true → p ≡ q
one-page p q e = let h = and_parts (nat_eq p.repo q.repo) (nat_eq p.page q.page) e in
    joined p.repo q.repo p.page q.page (eqb-true p.repo q.repo h.0) (eqb-true p.page q.page h.1)

page_is : (p q : PageName) → q.page ≡ p.page → q.repo ≡ p.repo → p ≡ q
page_is p q a b = joined p.repo q.repo p.page q.page (sym b) (sym a)

pub itself : (p : PageName) → same_page p p ≡ true
itself p = rw (eq-eqb p.repo p.repo refl, eq-eqb p.page p.page refl) refl

pub names-are-equal : IsEquivalence same_page
names-are-equal = record {
  refl = itself;
  symm = λ p q. rw (nat_eq_equiv.symm p.repo q.repo, nat_eq_equiv.symm p.page q.page) refl;
  congr = λ p q r e. ap (λ k. same_page k r) (one-page p q e);
}

module _ {V : Type 0} where
  -- a page that was just added leaves the others
  pub left_alone : (p : PageName) (v : V) (es : List (PageName × V)) → remove_entry (same_page p) ((p, v) ∷ es) ≡ es
  left_alone p v es = rw (itself p) refl

  -- the pages of another name are found as before behind a removal
  pub left-over : (p q : PageName) (es : List (PageName × V)) → same_page q p ≡ false → lookup (same_page q) (remove_entry (same_page p) es) ≡ lookup (same_page q) es
  left-over p q [] off = refl
  left-over p q (f ∷ es) off = (elim (same_page p f.0) as (λ b. same_page p f.0 ≡ b → lookup (same_page q) (remove_entry (same_page p) (f ∷ es)) ≡ lookup (same_page q) (f ∷ es)) [
    | true ↦ λ t. let e : p ≡ f.0 = one-page p f.0 t in let other : same_page q f.0 ≡ false = subst (λ k. same_page q k ≡ false) e off in rw (t, other) refl
    | false ↦ λ t. rw t (ap (λ o. cond (same_page q f.0) (Some f.1) o) (left-over p q es off))
  ]) refl

  to_front : (p q : PageName) (es : List (PageName × V)) (o : Option (PageName × V)) → lookup_entry (same_page p) es ≡ o
      → lookup (same_page q) (option_map_or (λ e. e ∷ remove_entry (same_page p) es) o es) ≡ lookup (same_page q) es
  to_front p q es None h = refl
  to_front p q es (Some e) h = let t = (Contains-lookup_entry (same_page p) es e h).1 in let k : p ≡ e.0 = one-page p e.0 t in
      (elim (same_page q p) as (λ b. same_page q p ≡ b → lookup (same_page q) (e ∷ remove_entry (same_page p) es) ≡ lookup (same_page q) es) [
        | true ↦ λ s. let at : same_page q e.0 ≡ true = subst (λ n. same_page q n ≡ true) k s in
            let found : lookup (same_page p) es ≡ Some e.1 = rw (← lookup-lookup_entry (same_page p) es, h) refl in
            rw at (sym (subst (λ n. lookup (same_page n) es ≡ Some e.1) (sym (one-page q p s)) found))
        | false ↦ λ s. let off : same_page q e.0 ≡ false = subst (λ n. same_page q n ≡ false) k s in rw off (left-over p q es s)
      ]) refl

  -- the order of use changes no look-up
  pub found-promoted : (p q : PageName) (es : List (PageName × V)) → lookup (same_page q) (promoted (same_page p) es) ≡ lookup (same_page q) es
  found-promoted p q es = to_front p q es (lookup_entry (same_page p) es) refl

  -- ---- the page that was used last

  head_is : (q : PageName) (v : V) (e : PageName × V) (es : List (PageName × V)) → Some (q, v) ≡ slice_get (e ∷ es) 0 → (q, v) ≡ e
  head_is q v e es h = ap (λ (o : Option (PageName × V)). unwrap_or o (q, v)) h

  pub first_found : (p q : PageName) (v : V) (es : List (PageName × V)) → Some (q, v) ≡ slice_get es 0 → q.page ≡ p.page → q.repo ≡ p.repo → lookup (same_page p) es ≡ Some v
  first_found p q v [] h a b = cc
  first_found p q v (e ∷ es) h a b =
      let t : same_page p q ≡ true = subst (λ (r : PageName). same_page p r ≡ true) (page_is p q a b) (itself p) in
      subst (λ (f : PageName × V). lookup (same_page p) (f ∷ es) ≡ Some v) (head_is q v e es h) (ap (λ (c : Bool). cond c (Some v) (lookup (same_page p) es)) t)

  pub first_forward : (p q : PageName) (v : V) (es : List (PageName × V)) → Some (q, v) ≡ slice_get es 0 → q.page ≡ p.page → q.repo ≡ p.repo → keys_of es ≡ forward p (keys_of es)
  first_forward p q v [] h a b = cc
  first_forward p q v (e ∷ es) h a b =
      let i : p ≡ q = page_is p q a b in
      let t : same_page p q ≡ true = subst (λ (r : PageName). same_page p r ≡ true) i (itself p) in
      subst (λ (f : PageName × V). keys_of (f ∷ es) ≡ forward p (keys_of (f ∷ es))) (head_is q v e es h)
      (ap (λ (r : PageName). r ∷ keys_of es) (sym i) ∙ ap (λ (c : Bool). p ∷ cond c (keys_of es) (q ∷ remove_key (same_page p) (keys_of es))) (sym t))
