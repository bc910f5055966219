-- A binary search in a list whose keys rise finds just the keys that are among them.
use Rattle.std.proofs.Common.{◌≡◌, ◌<◌, ◌≤◌, true, false, List, [], ◌∷◌, arith, ap, length, map, refl, rules, sym, ℕ, ◌∙◌, ◌⊎◌, ⊎_elim}
use Rattle.std.proofs.Math.ListN.{get_or}
use Rattle.std.proofs.lemmas.Cmp.{alike_right, tied_back}
use Rattle.std.proofs.lemmas.List.Folds.{list_any_at, list_any_none}
use Rattle.std.proofs.lemmas.List.{get_or-map, length-map, map-id}
use Rattle.std.proofs.lemmas.Map.Keys.{Less-from_sorted}
use Rattle.std.proofs.lemmas.Bool.{cases_lt}
use Rattle.std.specs.Cmp.{IsTotalOrder}
use Rattle.std.specs.List.Sorted.{IsBinarySearchResult, IsNonDecreasingBy, IsPartitionPoint, IsSearchInRange, IsStrictlySortedBy}
use Rattle.std.specs.List.{list_any}
use Rattle.std.specs.Ordering.{eq_by_cmp, is_eq, ordering_index}
use Rattle.std.specs.Prelude.{Err, Ok, Result, is_ok}
use Rattle.std.specs.declared.cmp.Ordering.TheVariants.{Equal, Greater, Less}
use Rattle.std.specs.declared.cmp.Ordering.{Ordering}
use Rattle.thor_value.proofs.NameOrders.{oref_total}
use Rattle.thor_value.specs.Names.{oref_cmp}
use Rattle.thor_value.specs.declared.names.Oref.{Oref}
use Rattle.validation_queue.specs.Names.{Rises, is_among}

at_most_two : (r : Ordering) → ordering_index r ≤ 2
at_most_two Less = omega arith
at_most_two Equal = omega arith
at_most_two Greater = omega arith

same_or_below : (i j : ℕ) → i ≤ j → (i ≡ j) ⊎ (i < j)
same_or_below i j h = search (rules, arith)

module _ {A K : Type 0} (R : K → K → Ordering) (o : IsTotalOrder R) (key : A → K) (x : K) where
  index_by : (a b : K) → R a b ≡ Less → (r : Ordering) → R b x ≡ r → ordering_index (R a x) ≤ ordering_index r
  index_by a b h Less e = let f : R a x ≡ Less = o.trans a b x h e in rw f (omega arith)
  index_by a b h Equal e = let f : R a x ≡ Less = sym (alike_right o b x a e) ∙ h in rw f (omega arith)
  index_by a b h Greater e = at_most_two (R a x)

  rising : (xs : List A) → IsStrictlySortedBy R (map key xs) → IsNonDecreasingBy (λ y. ordering_index (R (key y) x)) xs
  rising xs h i j d le lt = ⊎_elim (λ e. same e) (λ l. below l) (same_or_below i j le)
    where
      same : i ≡ j → ordering_index (R (key (get_or xs i d)) x) ≤ ordering_index (R (key (get_or xs j d)) x)
      same e = rw e (omega arith)

      below : i < j → ordering_index (R (key (get_or xs i d)) x) ≤ ordering_index (R (key (get_or xs j d)) x)
      below l =
          let at_i : get_or (map key xs) i (key d) ≡ key (get_or xs i d) = get_or-map key xs i d (key d) (omega arith) in
          let at_j : get_or (map key xs) j (key d) ≡ key (get_or xs j d) = get_or-map key xs j d (key d) lt in
          let less : R (get_or (map key xs) i (key d)) (get_or (map key xs) j (key d)) ≡ Less = Less-from_sorted R (map key xs) i j (key d) h l (rw length-map lt) in
          index_by (key (get_or xs i d)) (key (get_or xs j d)) (rw (at_i, at_j) at less) (R (key (get_or xs j d)) x) refl

  found : (xs : List A) (i : ℕ) → i < length xs → ((d : A) → R (key (get_or xs i d)) x ≡ Equal) → list_any (eq_by_cmp R x) (map key xs) ≡ true
  found [] i l h = absurd (omega arith)
  found (y ∷ ys) i l h =
      let at_i : get_or (map key (y ∷ ys)) i (key y) ≡ key (get_or (y ∷ ys) i y) = get_or-map key (y ∷ ys) i y (key y) l in
      list_any_at (eq_by_cmp R x) (map key (y ∷ ys)) i (key y) (rw length-map l) (rw at_i (ap is_eq (tied_back o _ _ (h y))))

  apart : (k : K) (r : Ordering) → R k x ≡ r → ¬ (r ≡ Equal) → eq_by_cmp R x k ≡ false
  apart k r e n = by (R x k) refl
    where
      by : (s : Ordering) → R x k ≡ s → is_eq s ≡ false
      by Less f = refl
      by Greater f = refl
      by Equal f = absurd (n (sym e ∙ tied_back o x k f))

  missed : (xs : List A) (i : ℕ) → i ≤ length xs → IsPartitionPoint (λ y. R (key y) x ≡ Less) (λ y. R (key y) x ≡ Greater) xs i → list_any (eq_by_cmp R x) (map key xs) ≡ false
  missed [] i l h = refl
  missed (y ∷ ys) i l h = list_any_none (eq_by_cmp R x) (map key (y ∷ ys)) (λ k d g. at k d (rw length-map at g))
    where
      at : (k : ℕ) (d : K) → k < length (y ∷ ys) → eq_by_cmp R x (get_or (map key (y ∷ ys)) k d) ≡ false
      at k d g =
          let is : get_or (map key (y ∷ ys)) k d ≡ key (get_or (y ∷ ys) k y) = get_or-map key (y ∷ ys) k y d g in
          rw is (⊎_elim (λ below. apart _ Less (h.0 k y (omega arith) below) (λ e. cc)) (λ above. apart _ Greater (h.1 k y above g) (λ e. cc)) (cases_lt k i))

  -- what a binary search answers tells whether x is one of the keys
  pub searched_keys : (xs : List A) (r : Result ℕ ℕ) → IsStrictlySortedBy R (map key xs) → IsSearchInRange r (length xs) → IsBinarySearchResult (λ y. R (key y) x) xs r → is_ok r ≡ list_any (eq_by_cmp R x) (map key xs)
  searched_keys xs (Ok i) h b s = sym (found xs i b s)
  searched_keys xs (Err i) h b s = sym (missed xs i b (s (rising xs h)))

-- the same of names
pub searched_names : (x : Oref) (names : List Oref) (r : Result ℕ ℕ) → Rises names → IsSearchInRange r (length names) → IsBinarySearchResult (λ y. oref_cmp y x) names r → is_ok r ≡ is_among names x
searched_names x names r h b s =
    let is : map (λ (y : Oref). y) names ≡ names = map-id names in
    let k : is_ok r ≡ is_among (map (λ (y : Oref). y) names) x = searched_keys oref_cmp oref_total (λ y. y) x names r (rw is h) b s in
    rw is at k
