-- The laws of finite maps: what stands at a key after a change, that keys stay in order, and that
-- two maps that answer alike are one.
use Rattle.std.proofs.Common.{◌≡◌, Bool, true, false, cond, List, [], ◌∷◌, refl, ap, sym, ◌∙◌, subst, T}
use Rattle.std.proofs.lemmas.Cmp.{eq_by_cmp_equiv}
use Rattle.std.proofs.lemmas.Map.Entries.{lookup-filter-keys}
use Rattle.std.proofs.lemmas.Map.Views.{tells_apart}
use Rattle.std.proofs.lemmas.Map.{lookup-remove_entry}
use Rattle.std.proofs.lemmas.Map.Keys.{IsDistinct-from_sorted}
use Rattle.std.proofs.lemmas.Map.Lookups.{CmpEqualImpliesEq}
use Rattle.std.specs.BTreeMap.{insert_entry, is_at}
use Rattle.std.specs.Cmp.{IsTotalOrder}
use Rattle.std.specs.FinMap.Entries.{find, put, is_sorted, below_all, by_order, find-put, is_sorted-put, is_sorted-where_key, same_entries}
use Rattle.std.specs.List.{AllByRecursion, filter}
use Rattle.std.specs.List.Sorted.{IsStrictlySortedBy}
use Rattle.std.specs.Map.{keys_of, lookup, remove_entry}
use Rattle.std.specs.Ordering.{eq_by_cmp, match_ordering, is_lt}
use Rattle.std.specs.Prelude.{◌&&◌, Some, None}
use Rattle.std.specs.declared.cmp.Ordering.{Ordering}
use Rattle.std.specs.declared.cmp.Ordering.TheVariants.{Less, Equal, Greater}
use Rattle.thor_value.specs.FiniteMap.{IsSorted, Map, get, insert, keep, remove}

both : (a b : Bool) → T a → T b → T (a && b)
both true b p q = q
both false b p q = p

parts : (a b : Bool) → T (a && b) → T a × T b
parts true b p = (tt, p)
parts false b p = absurd p

less : (o : Ordering) → T (is_lt o) → o ≡ Less
less Less p = refl
less Equal p = absurd p
less Greater p = absurd p

module _ {K X : Type 0} (R : K → K → Ordering) where
  find_is : (q : K) (es : List (K × X)) → find R q es ≡ lookup (is_at (R q)) es
  find_is q [] = refl
  find_is q (e ∷ es) = ap (cond (is_at (R q) e.0) (Some e.1)) (find_is q es)

  put_is : (k : K) (v : X) (es : List (K × X)) → put R k v es ≡ insert_entry R es k v
  put_is k v [] = refl
  put_is k v (e ∷ es) =
      elim (R k e.0) as (λ o. by_order o ((k, v) ∷ e ∷ es) ((e.0, v) ∷ es) (e ∷ put R k v es) ≡ match_ordering o ((k, v) ∷ e ∷ es) ((e.0, v) ∷ es) (e ∷ insert_entry R es k v)) [
        | Less ↦ refl
        | Equal ↦ refl
        | Greater ↦ ap (λ fs. e ∷ fs) (put_is k v es)
      ]

  below_is : (k : K) (es : List (K × X)) → AllByRecursion (λ y. R k y ≡ Less) (keys_of es) → T (below_all R k es)
  below_is k [] h = tt
  below_is k (e ∷ es) h = both _ _ (subst (λ o. T (is_lt o)) (sym h.0) tt) (below_is k es h.1)

  below_back : (k : K) (es : List (K × X)) → T (below_all R k es) → AllByRecursion (λ y. R k y ≡ Less) (keys_of es)
  below_back k [] h = tt
  below_back k (e ∷ es) h = let p = parts (is_lt (R k e.0)) (below_all R k es) h in (less _ p.0, below_back k es p.1)

  sorted_is : (es : List (K × X)) → IsStrictlySortedBy R (keys_of es) → T (is_sorted R es)
  unfolding IsStrictlySortedBy
  sorted_is [] h = tt
  sorted_is (e ∷ es) h = both _ _ (below_is e.0 es h.0) (sorted_is es h.1)

  sorted_back : (es : List (K × X)) → T (is_sorted R es) → IsStrictlySortedBy R (keys_of es)
  unfolding IsStrictlySortedBy
  sorted_back [] h = tt
  sorted_back (e ∷ es) h = let p = parts (below_all R e.0 es) (is_sorted R es) h in (below_back e.0 es p.0, sorted_back es p.1)

  below_remove : (P : K → Type 0) (test : K → Bool) (es : List (K × X)) → AllByRecursion P (keys_of es) → AllByRecursion P (keys_of (remove_entry test es))
  below_remove P test [] h = tt
  below_remove P test (e ∷ es) h = by_test (test e.0) (below_remove P test es h.1)
    where
      by_test : (b : Bool) → AllByRecursion P (keys_of (remove_entry test es)) → AllByRecursion P (keys_of (cond b es (e ∷ remove_entry test es)))
      by_test true rest = h.1
      by_test false rest = (h.0, rest)

  sorted_remove : (test : K → Bool) (es : List (K × X)) → IsStrictlySortedBy R (keys_of es) → IsStrictlySortedBy R (keys_of (remove_entry test es))
  unfolding IsStrictlySortedBy
  sorted_remove test [] h = tt
  sorted_remove test (e ∷ es) h = by_test (test e.0) (sorted_remove test es h.1)
    where
      by_test : (b : Bool) → IsStrictlySortedBy R (keys_of (remove_entry test es)) → IsStrictlySortedBy R (keys_of (cond b es (e ∷ remove_entry test es)))
      by_test true rest = h.1
      by_test false rest = (below_remove (λ y. R e.0 y ≡ Less) test es h.0, rest)

  -- the keys stay in order where one is taken out
  pub IsSorted-remove : (m : Map R X) (k : K) → IsSorted m → IsSorted (remove m k)
  IsSorted-remove m k h = sorted_remove (is_at (R k)) m.pairs h

  -- and where those alone stay that pass a test
  pub IsSorted-keep : (m : Map R X) (test : K → Bool) → IsSorted m → IsSorted (keep m test)
  IsSorted-keep m test h = sorted_back (filter (λ e. test e.0) m.pairs) (is_sorted-where_key R test m.pairs (sorted_is m.pairs h))

  -- what stands at q where those keys alone stay that pass a test
  pub get-keep : CmpEqualImpliesEq R → (m : Map R X) (test : K → Bool) (q : K) → get (keep m test) q ≡ cond (test q) (get m q) None
  get-keep exact m test q = lookup-filter-keys (is_at (R q)) test (test q) (λ k e. ap test (sym (tells_apart exact q k e))) m.pairs

module _ {K X : Type 0} {R : K → K → Ordering} (o : IsTotalOrder R) where
  -- what stands at q after v was put at k
  pub get-insert : (m : Map R X) (k : K) (v : X) (q : K) → get (insert m k v) q ≡ cond (eq_by_cmp R q k) (Some v) (get m q)
  get-insert m k v q =
      ap (lookup (is_at (R q))) (sym (put_is R k v m.pairs)) ∙ sym (find_is R q (put R k v m.pairs))
      ∙ find-put R o q k v m.pairs
      ∙ ap (cond (eq_by_cmp R q k) (Some v)) (find_is R q m.pairs)

  -- the keys stay in order
  pub IsSorted-insert : (m : Map R X) (k : K) (v : X) → IsSorted m → IsSorted (insert m k v)
  IsSorted-insert m k v h =
      let P = λ (es : List (K × X)). IsStrictlySortedBy R (keys_of es) in
      subst P (put_is R k v m.pairs) (sorted_back R _ (is_sorted-put R o k v m.pairs (sorted_is R m.pairs h)))

  -- what stands at q after the key k was taken out
  pub get-remove : (m : Map R X) (k q : K) → IsSorted m → get (remove m k) q ≡ cond (eq_by_cmp R k q) None (get m q)
  get-remove m k q h = lookup-remove_entry (eq_by_cmp_equiv o) (is_at (R k)) (λ x y t. (eq_by_cmp_equiv o).congr k x y t) q m.pairs (IsDistinct-from_sorted R _ h)

  -- two maps that answer alike at each key are one
  pub same_map : CmpEqualImpliesEq R → (m n : Map R X) → IsSorted m → IsSorted n → ((q : K) → get m q ≡ get n q) → m ≡ n
  same_map exact m n g h is =
      let e : m.pairs ≡ n.pairs = same_entries R o exact m.pairs n.pairs (sorted_is R m.pairs g) (sorted_is R n.pairs h) (λ q. find_is R q m.pairs ∙ is q ∙ sym (find_is R q n.pairs)) in
      ap (λ (es : List (K × X)). record { pairs = es }) e
