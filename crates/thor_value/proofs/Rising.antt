-- What a search among names that rise tells, and the set that has them.
use Rattle.std.proofs.Common.{◌≡◌, ℕ, zero, suc, ◌-◌, ◌<◌, ◌≤◌, Bool, true, false, cond, List, [], ◌∷◌, length, map, refl, sym, ap, subst, ◌∙◌, arith, Option, Some, None, Result, Ok, Err, IfOk, IfErr}
use Rattle.std.specs.BTreeMap.{insert_entry, is_at}
use Rattle.std.specs.BTreeSet.{insert_key}
use Rattle.std.proofs.lemmas.List.Edits.{insert_end}
use Rattle.std.proofs.lemmas.Option.{slice_get-get_or}
use Rattle.std.specs.Prelude.{get_or, is_some, ◌++◌, ◌||◌}
use Rattle.std.specs.List.{AllByRecursion, insert, list_any, slice_get, slice_index_or}
use Rattle.std.specs.List.Sorted.{IsBinarySearchResult, IsNonDecreasingBy, IsSearchInRange, IsStrictlySortedBy}
use Rattle.std.specs.Ordering.{is_lt, ordering_index, ordering_reverse}
use Rattle.std.specs.declared.cmp.Ordering.{Ordering}
use Rattle.std.specs.declared.cmp.Ordering.TheVariants.{Less, Equal, Greater}
use Rattle.thor_value.proofs.NameOrders.{oref_total}
use Rattle.thor_value.specs.FiniteMap.{add, get, has, keys, len}
use Rattle.thor_value.specs.Names.{oref_cmp}
use Rattle.thor_value.specs.Rising.{IsBehind, IsGap, IsThere, Rise, set_of}
use Rattle.thor_value.specs.declared.names.Oref.{Oref}

-- ---- the order

pub over : (x y : Oref) → oref_cmp x y ≡ Less → oref_cmp y x ≡ Greater
over x y h = oref_total.antisymm y x ∙ ap ordering_reverse h

pub under : (x y : Oref) → oref_cmp x y ≡ Greater → oref_cmp y x ≡ Less
under x y h = oref_total.antisymm y x ∙ ap ordering_reverse h

pub even : (x y : Oref) → oref_cmp x y ≡ Equal → oref_cmp y x ≡ Equal
even x y h = oref_total.antisymm y x ∙ ap ordering_reverse h

-- a name from x on has those behind it above x
above : (y z x : Oref) (o : Ordering) → oref_cmp y z ≡ Less → oref_cmp y x ≡ o → ordering_index o ≤ ordering_index (oref_cmp z x)
above y z x Less lt e = omega arith
above y z x Equal lt e = let g : oref_cmp z x ≡ Greater = over x z (sym (oref_total.congr y x z e) ∙ lt) in rw g (omega arith)
above y z x Greater lt e = let g : oref_cmp z x ≡ Greater = over x z (oref_total.trans x y z (under y x e) lt) in rw g (omega arith)

-- ---- what stands at a place

pub all_at : (P : Oref → Type 0) (xs : List Oref) (d : Oref) (k : ℕ) → AllByRecursion P xs → k < length xs → P (slice_index_or xs k d)
all_at P [] d k h within = absurd (omega (arith, within))
all_at P (q ∷ xs) d zero h within = h.0
all_at P (q ∷ xs) d (suc k) h within = all_at P xs d k h.1 (omega (arith, within))

in_order : (xs : List Oref) (x d : Oref) (i j : ℕ) → Rise xs → i ≤ j → j < length xs → ordering_index (oref_cmp (slice_index_or xs i d) x) ≤ ordering_index (oref_cmp (slice_index_or xs j d) x)
unfolding IsStrictlySortedBy
in_order [] x d i j rise le within = absurd (omega (arith, within))
in_order (q ∷ xs) x d zero zero rise le within = omega arith
in_order (q ∷ xs) x d zero (suc j) rise le within = above q (slice_index_or xs j d) x (oref_cmp q x) (all_at (λ z. oref_cmp q z ≡ Less) xs d j rise.0 (omega (arith, within))) refl
in_order (q ∷ xs) x d (suc i) zero rise le within = absurd (omega (arith, le))
in_order (q ∷ xs) x d (suc i) (suc j) rise le within = in_order xs x d i j rise.1 (omega (arith, le)) (omega (arith, within))

pub non_decreasing : (xs : List Oref) (x : Oref) → Rise xs → IsNonDecreasingBy (λ y. ordering_index (oref_cmp y x)) xs
non_decreasing xs x rise i j d le within = in_order xs x d i j rise le within

-- ---- a name below all of them

pub all_below : (x q : Oref) (xs : List Oref) → oref_cmp x q ≡ Less → AllByRecursion (λ z. oref_cmp q z ≡ Less) xs → AllByRecursion (λ z. oref_cmp x z ≡ Less) xs
all_below x q [] lt h = tt
all_below x q (z ∷ xs) lt h = (oref_total.trans x q z lt h.0, all_below x q xs lt h.1)

pub none_below : (x : Oref) (xs : List Oref) → AllByRecursion (λ z. oref_cmp x z ≡ Less) xs → list_any (is_at (oref_cmp x)) xs ≡ false
none_below x [] h = refl
none_below x (q ∷ xs) h = let lt : oref_cmp x q ≡ Less = h.0 in rw lt (none_below x xs h.1)

-- ---- the name is there

there_behind : (q x : Oref) (xs : List Oref) (at : ℕ) → oref_cmp x q ≡ Greater → IsThere xs x at → IsThere (q ∷ xs) x (suc at)
there_behind q x xs at g h =
    let within = h.within in
    record {
      within = omega arith;
      here = h.here;
      there = rw g h.there;
      put = rw g (ap (λ (ys : List Oref). q ∷ ys) h.put);
    }

pub there_at : (xs : List Oref) (x : Oref) (at : ℕ) → Rise xs → at < length xs → oref_cmp (slice_index_or xs at x) x ≡ Equal → IsThere xs x at
unfolding IsStrictlySortedBy
there_at [] x at rise within is = absurd (omega (arith, within))
there_at (q ∷ xs) x zero rise within is = let e : oref_cmp x q ≡ Equal = even q x is in record { within = within; here = is; there = rw e refl; put = rw e refl }
there_at (q ∷ xs) x (suc at) rise within is =
    let y = slice_index_or xs at x in
    let lt : oref_cmp q y ≡ Less = all_at (λ z. oref_cmp q z ≡ Less) xs x at rise.0 (omega (arith, within)) in
    let g : oref_cmp x q ≡ Greater = sym (oref_total.congr y x q is) ∙ over q y lt in
    there_behind q x xs at g (there_at xs x at rise.1 (omega (arith, within)) is)

-- ---- the name isn't there

all_insert : (P : Oref → Type 0) (xs : List Oref) (x : Oref) (at : ℕ) → AllByRecursion P xs → P x → at ≤ length xs → AllByRecursion P (insert xs at x)
all_insert P xs x zero h p within = (p, h)
all_insert P [] x (suc at) h p within = absurd (omega (arith, within))
all_insert P (q ∷ xs) x (suc at) h p within = (h.0, all_insert P xs x at h.1 p (omega (arith, within)))

gap_behind : (q x : Oref) (xs : List Oref) (at : ℕ) → oref_cmp q x ≡ Less → AllByRecursion (λ z. oref_cmp q z ≡ Less) xs → IsGap xs x at → IsGap (q ∷ xs) x (suc at)
unfolding IsStrictlySortedBy
gap_behind q x xs at lt all gap =
    let g : oref_cmp x q ≡ Greater = over q x lt in
    let within = gap.within in
    record {
      within = omega arith;
      absent = rw g gap.absent;
      put = rw g (ap (λ (ys : List Oref). q ∷ ys) gap.put);
      rise = (all_insert (λ z. oref_cmp q z ≡ Less) xs x at all lt gap.within, gap.rise);
    }

gap_here : (q x : Oref) (xs : List Oref) → oref_cmp x q ≡ Less → Rise (q ∷ xs) → IsGap (q ∷ xs) x zero
unfolding IsStrictlySortedBy
gap_here q x xs lt rise =
    let all : AllByRecursion (λ z. oref_cmp x z ≡ Less) (q ∷ xs) = (lt, all_below x q xs lt rise.0) in
    record { within = omega arith; absent = none_below x (q ∷ xs) all; put = rw lt refl; rise = (all, rise) }

pub gap_at : (xs : List Oref) (x : Oref) (at : ℕ) → Rise xs → at ≤ length xs
    → ((k : ℕ) → k < at → oref_cmp (slice_index_or xs k x) x ≡ Less) → ((k : ℕ) → at ≤ k → k < length xs → oref_cmp (slice_index_or xs k x) x ≡ Greater) → IsGap xs x at
unfolding IsStrictlySortedBy
gap_at [] x zero rise within lower greater = record { within = omega arith; absent = refl; put = refl; rise = (tt, tt) }
gap_at [] x (suc at) rise within lower greater = absurd (omega (arith, within))
gap_at (q ∷ xs) x zero rise within lower greater = gap_here q x xs (under q x (greater 0 (omega arith) (omega arith))) rise
gap_at (q ∷ xs) x (suc at) rise within lower greater =
    gap_behind q x xs at (lower 0 (omega arith)) rise.0
    (gap_at xs x at rise.1 (omega (arith, within)) (λ k lt. lower (suc k) (omega (arith, lt))) (λ k le below. greater (suc k) (omega (arith, le)) (omega (arith, below))))

-- ---- what a search answers

pub found : (xs : List Oref) (x : Oref) (r : Result ℕ ℕ) → Rise xs → IsSearchInRange r (length xs) → IsBinarySearchResult (λ y. oref_cmp y x) xs r → IfOk r (λ at. IsThere xs x at)
found xs x (Ok at) rise within position = there_at xs x at rise within (position x)
found xs x (Err at) rise within position = tt

pub absent : (xs : List Oref) (x : Oref) (r : Result ℕ ℕ) → Rise xs → IsSearchInRange r (length xs) → IsBinarySearchResult (λ y. oref_cmp y x) xs r → IfErr r (λ at. IsGap xs x at)
absent xs x (Ok at) rise within position = tt
absent xs x (Err at) rise within position =
    let parts = position (non_decreasing xs x rise) in
    gap_at xs x at rise within (λ k lt. parts.0 k x (omega arith) lt) (λ k le below. parts.1 k x le below)

pub none_rise : Rise []
unfolding IsStrictlySortedBy
none_rise = tt

-- ---- a name behind the last one

all_got : (P : Oref → Type 0) (xs : List Oref) (k : ℕ) (y : Oref) → AllByRecursion P xs → slice_get xs k ≡ Some y → P y
all_got P [] k y h got = cc
all_got P (q ∷ xs) zero y h got = let same : q ≡ y = cc in subst P same h.0
all_got P (q ∷ xs) (suc k) y h got = all_got P xs k y h.1 got

gap_end : (xs : List Oref) (k : ℕ) (y x : Oref) → Rise xs → length xs ≡ suc k → slice_get xs k ≡ Some y → oref_cmp y x ≡ Less → IsGap xs x (suc k)
unfolding IsStrictlySortedBy
gap_end [] k y x rise long got lt = absurd (omega (arith, long))
gap_end (q ∷ []) zero y x rise long got lt = let same : q ≡ y = cc in gap_behind q x [] zero (rw same lt) tt (gap_at [] x zero none_rise (omega arith) (λ k h. absurd (omega (arith, h))) (λ k le h. absurd (omega (arith, h))))
gap_end (q ∷ z ∷ xs) zero y x rise long got lt = absurd (omega (arith, long))
gap_end (q ∷ xs) (suc k) y x rise long got lt =
    let under_last : oref_cmp q y ≡ Less = all_got (λ z. oref_cmp q z ≡ Less) xs k y rise.0 got in
    gap_behind q x xs (suc k) (oref_total.trans q y x under_last lt) rise.0 (gap_end xs k y x rise.1 (omega (arith, long)) got lt)

behind_gap : (xs : List Oref) (x : Oref) (n : ℕ) → n ≡ length xs → IsGap xs x n → IsBehind xs x
behind_gap xs x n is gap = let e : insert xs n x ≡ xs ++ x ∷ [] = rw is (insert_end xs x) in record { absent = gap.absent; put = gap.put ∙ e; rise = subst Rise e gap.rise }

pub behind_none : (xs : List Oref) (x : Oref) → None ≡ slice_get xs (length xs - 1) → IsBehind xs x
unfolding IsStrictlySortedBy
behind_none [] x none = record { absent = refl; put = refl; rise = (tt, tt) }
behind_none (q ∷ xs) x none =
    let e : length (q ∷ xs) - 1 ≡ length xs = omega arith in
    let some : slice_get (q ∷ xs) (length xs) ≡ Some (get_or (q ∷ xs) (length xs) q) = slice_get-get_or (q ∷ xs) (length xs) q (omega arith) in
    let never : None ≡ Some (get_or (q ∷ xs) (length xs) q) = subst (λ k. None ≡ slice_get (q ∷ xs) k) e none ∙ some in
    cc

pub behind_last : (xs : List Oref) (y x : Oref) → Rise xs → Some y ≡ slice_get xs (length xs - 1) → oref_cmp y x ≡ Less → IsBehind xs x
behind_last [] y x rise got lt = cc
behind_last (q ∷ xs) y x rise got lt =
    let e : length (q ∷ xs) - 1 ≡ length xs = omega arith in
    let last : Some y ≡ slice_get (q ∷ xs) (length xs) = subst (λ k. Some y ≡ slice_get (q ∷ xs) k) e got in
    behind_gap (q ∷ xs) x (suc (length xs)) refl (gap_end (q ∷ xs) (length xs) y x rise refl (sym last) lt)

pub less : (o : Ordering) → is_lt o ≡ true → o ≡ Less
less Less h = refl
less Equal h = cc
less Greater h = cc

-- ---- the set that has these names

abbrev pairs_of : List Oref → List (Oref × Unit {0})
pairs_of xs = map (λ x. (x, tt)) xs

put_pairs : (xs : List Oref) (k : Oref) → pairs_of (insert_key oref_cmp xs k) ≡ insert_entry oref_cmp (pairs_of xs) k tt
put_pairs [] k = refl
put_pairs (y ∷ xs) k = (elim (oref_cmp k y) as (λ o. oref_cmp k y ≡ o → pairs_of (insert_key oref_cmp (y ∷ xs) k) ≡ insert_entry oref_cmp (pairs_of (y ∷ xs)) k tt) [
  | Less ↦ λ e. rw e refl
  | Equal ↦ λ e. rw e refl
  | Greater ↦ λ e. rw e (ap (λ (ps : List (Oref × Unit {0})). (y, tt) ∷ ps) (put_pairs xs k))
]) refl

put_set : (xs : List Oref) (k : Oref) → set_of (insert_key oref_cmp xs k) ≡ add (set_of xs) k
put_set xs k = ap (λ (ps : List (Oref × Unit {0})). record { pairs = ps }) (put_pairs xs k)

pub behind_added : (xs : List Oref) (x : Oref) → IsBehind xs x → set_of (xs ++ x ∷ []) ≡ add (set_of xs) x
behind_added xs x h = ap set_of (sym h.put) ∙ put_set xs x

pub gap_added : (xs : List Oref) (x : Oref) (at : ℕ) → IsGap xs x at → set_of (insert xs at x) ≡ add (set_of xs) x
gap_added xs x at h = ap set_of (sym h.put) ∙ put_set xs x

pub there_added : (xs : List Oref) (x : Oref) (at : ℕ) → IsThere xs x at → set_of xs ≡ add (set_of xs) x
there_added xs x at h = ap set_of (sym h.put) ∙ put_set xs x

pub ruleset added = (behind_added, gap_added, there_added)

first_or : (b c : Bool) (r : Option (Unit {0})) → c ≡ is_some r → (b || c) ≡ is_some (cond b (Some tt) r)
first_or true c r h = refl
first_or false c r h = h

any_has : (xs : List Oref) (x : Oref) → list_any (is_at (oref_cmp x)) xs ≡ has (set_of xs) x
any_has [] x = refl
any_has (y ∷ xs) x = first_or (is_at (oref_cmp x) y) (list_any (is_at (oref_cmp x)) xs) (get (set_of xs) x) (any_has xs x)

pub there_has : (xs : List Oref) (x : Oref) (at : ℕ) → IsThere xs x at → true ≡ has (set_of xs) x
there_has xs x at h = sym h.there ∙ any_has xs x

pub gap_has : (xs : List Oref) (x : Oref) (at : ℕ) → IsGap xs x at → false ≡ has (set_of xs) x
gap_has xs x at h = sym h.absent ∙ any_has xs x

pub behind_has : (xs : List Oref) (x : Oref) → IsBehind xs x → false ≡ has (set_of xs) x
behind_has xs x h = sym h.absent ∙ any_has xs x

pub ruleset having = (there_has, gap_has, behind_has)

pub keys_are : (xs : List Oref) → xs ≡ keys (set_of xs)
keys_are [] = refl
keys_are (x ∷ xs) = ap (λ (ys : List Oref). x ∷ ys) (keys_are xs)

pub long : (xs : List Oref) → length xs ≡ len (set_of xs)
long [] = refl
long (x ∷ xs) = ap suc (long xs)
