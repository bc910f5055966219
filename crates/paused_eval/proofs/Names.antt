-- What a list of names that rise has, where one is put in its place or some are dropped.
use Rattle.std.proofs.Common.{◌≡◌, ◌&&◌, ◌||◌, ◌+◌, ℕ, zero, suc, Bool, true, false, arith, cond, drop, List, [], ◌∷◌, Option, Some, None, refl, sym, ap, slice_get, subst, ◌∙◌}
use Rattle.std.specs.BTreeMap.{insert_entry, is_at}
use Rattle.std.specs.BTreeSet.{insert_key}
use Rattle.std.specs.List.{filter, list_any}
use Rattle.std.specs.List.Sorted.{IsStrictlySortedBy}
use Rattle.std.specs.Map.{keys_of, lookup}
use Rattle.std.specs.Ordering.{eq_by_cmp, match_ordering}
use Rattle.std.specs.Prelude.{is_some, map, unwrap_or}
use Rattle.std.specs.declared.cmp.Ordering.{Ordering}
use Rattle.std.specs.declared.cmp.Ordering.TheVariants.{Less, Equal, Greater}
use Rattle.thor_value.proofs.FiniteMap.{get-insert, get-keep, IsSorted-insert, IsSorted-keep}
use Rattle.thor_value.proofs.NameOrders.{oref_exact, oref_total}
use Rattle.thor_value.specs.FiniteMap as set
use Rattle.thor_value.specs.FiniteMap.{Set, get, has, keep}
use Rattle.thor_value.specs.Names.{oref_cmp}
use Rattle.thor_value.specs.declared.names.Oref.{Oref}

-- ---- one after the other

pub next_there : (xs : List Oref) (i : ℕ) (x : Oref) → slice_get xs i ≡ Some x → drop i xs ≡ x ∷ drop (i + 1) xs
next_there [] i x h = cc
next_there (y ∷ ys) zero x h = ap (λ (z : Oref). z ∷ ys) (ap (λ (o : Option Oref). unwrap_or o y) h)
next_there (y ∷ ys) (suc i) x h = next_there ys i x h ∙ ap (λ (k : ℕ). x ∷ drop k (y ∷ ys)) (let e : suc (i + 1) ≡ suc i + 1 = omega arith in e)

pub none_left : (xs : List Oref) (i : ℕ) → slice_get xs i ≡ None → drop i xs ≡ []
none_left [] zero h = refl
none_left [] (suc i) h = refl
none_left (y ∷ ys) zero h = cc
none_left (y ∷ ys) (suc i) h = none_left ys i h

-- ---- as the set that they are

abbrev pairs_of : List Oref → List (Oref × Unit {0})
pairs_of xs = map (λ x. (x, tt)) xs

-- the set that they are
abbrev set_of : List Oref → Set oref_cmp
set_of xs = record { pairs = pairs_of xs }

keys_are : (xs : List Oref) → keys_of (pairs_of xs) ≡ xs
keys_are [] = refl
keys_are (x ∷ xs) = ap (λ (ys : List Oref). x ∷ ys) (keys_are xs)

has_at : (b : Bool) (o : Option (Unit {0})) (u : Bool) → is_some o ≡ u → is_some (cond b (Some tt) o) ≡ (b || u)
has_at true o u h = refl
has_at false o u h = h

has_is : (xs : List Oref) (q : Oref) → has (set_of xs) q ≡ list_any (is_at (oref_cmp q)) xs
has_is [] q = refl
has_is (x ∷ xs) q = has_at (is_at (oref_cmp q) x) (lookup (is_at (oref_cmp q)) (pairs_of xs)) (list_any (is_at (oref_cmp q)) xs) (has_is xs q)

pub none_rise : IsStrictlySortedBy oref_cmp []
unfolding IsStrictlySortedBy
none_rise = tt

-- ---- one is put in its place

put_at : (o : Ordering) (x q : Oref) (xs : List Oref) → insert_entry oref_cmp (pairs_of xs) x tt ≡ pairs_of (insert_key oref_cmp xs x)
    → match_ordering o ((x, tt) ∷ (q, tt) ∷ pairs_of xs) ((q, tt) ∷ pairs_of xs) ((q, tt) ∷ insert_entry oref_cmp (pairs_of xs) x tt) ≡ pairs_of (match_ordering o (x ∷ q ∷ xs) (q ∷ xs) (q ∷ insert_key oref_cmp xs x))
put_at Less x q xs h = refl
put_at Equal x q xs h = refl
put_at Greater x q xs h = ap (λ (ps : List (Oref × Unit {0})). (q, tt) ∷ ps) h

put_pairs : (xs : List Oref) (x : Oref) → insert_entry oref_cmp (pairs_of xs) x tt ≡ pairs_of (insert_key oref_cmp xs x)
put_pairs [] x = refl
put_pairs (q ∷ xs) x = put_at (oref_cmp x q) x q xs (put_pairs xs x)

put_is : (xs : List Oref) (x : Oref) → set.insert (set_of xs) x tt ≡ set_of (insert_key oref_cmp xs x)
put_is xs x = ap (λ (ps : List (Oref × Unit {0})). record { pairs = ps }) (put_pairs xs x)

pub rise_put : (xs : List Oref) (x : Oref) → IsStrictlySortedBy oref_cmp xs → IsStrictlySortedBy oref_cmp (insert_key oref_cmp xs x)
rise_put xs x rise =
    subst (λ (ys : List Oref). IsStrictlySortedBy oref_cmp ys) (ap (λ (s : Set oref_cmp). keys_of s.pairs) (put_is xs x) ∙ keys_are (insert_key oref_cmp xs x))
    (IsSorted-insert oref_total (set_of xs) x tt (subst (λ (ys : List Oref). IsStrictlySortedBy oref_cmp ys) (sym (keys_are xs)) rise))

pub any_put : (xs : List Oref) (x q : Oref) → list_any (is_at (oref_cmp q)) (insert_key oref_cmp xs x) ≡ (eq_by_cmp oref_cmp q x || list_any (is_at (oref_cmp q)) xs)
any_put xs x q =
    sym (has_is (insert_key oref_cmp xs x) q)
    ∙ ap (λ (s : Set oref_cmp). has s q) (sym (put_is xs x))
    ∙ ap is_some (get-insert oref_total (set_of xs) x tt q)
    ∙ has_at (eq_by_cmp oref_cmp q x) (get (set_of xs) q) (list_any (is_at (oref_cmp q)) xs) (has_is xs q)

-- ---- some are dropped

kept : (b : Bool) (x : Oref) (ps : List (Oref × Unit {0})) (xs : List Oref) → ps ≡ pairs_of xs → cond b ((x, tt) ∷ ps) ps ≡ pairs_of (cond b (x ∷ xs) xs)
kept true x ps xs h = ap (λ (qs : List (Oref × Unit {0})). (x, tt) ∷ qs) h
kept false x ps xs h = h

kept_pairs : (test : Oref → Bool) (xs : List Oref) → keep (set_of xs) test ≡ set_of (filter test xs)
kept_pairs test xs = ap (λ (ps : List (Oref × Unit {0})). record { pairs = ps }) (by xs)
  where
    by : (xs : List Oref) → filter (λ e. test e.0) (pairs_of xs) ≡ pairs_of (filter test xs)
    by [] = refl
    by (x ∷ xs) = kept (test x) x (filter (λ e. test e.0) (pairs_of xs)) (filter test xs) (by xs)

pub rise_kept : (test : Oref → Bool) (xs : List Oref) → IsStrictlySortedBy oref_cmp xs → IsStrictlySortedBy oref_cmp (filter test xs)
rise_kept test xs rise =
    subst (λ (ys : List Oref). IsStrictlySortedBy oref_cmp ys) (ap (λ (s : Set oref_cmp). keys_of s.pairs) (kept_pairs test xs) ∙ keys_are (filter test xs))
    (IsSorted-keep oref_cmp (set_of xs) test (subst (λ (ys : List Oref). IsStrictlySortedBy oref_cmp ys) (sym (keys_are xs)) rise))

has_kept : (b : Bool) (o : Option (Unit {0})) (u : Bool) → is_some o ≡ u → is_some (cond b o None) ≡ (b && u)
has_kept true o u h = h
has_kept false o u h = refl

pub any_kept : (test : Oref → Bool) (xs : List Oref) (q : Oref) → list_any (is_at (oref_cmp q)) (filter test xs) ≡ (test q && list_any (is_at (oref_cmp q)) xs)
any_kept test xs q =
    sym (has_is (filter test xs) q)
    ∙ ap (λ (s : Set oref_cmp). has s q) (sym (kept_pairs test xs))
    ∙ ap is_some (get-keep oref_cmp oref_exact (set_of xs) test q)
    ∙ has_kept (test q) (get (set_of xs) q) (list_any (is_at (oref_cmp q)) xs) (has_is xs q)
