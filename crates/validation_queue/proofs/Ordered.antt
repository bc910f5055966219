-- What the test of a request's names tells.
use Rattle.std.proofs.Common.{◌≡◌, Bool, List, [], ◌∷◌, false, refl, subst, sym, true}
use Rattle.std.proofs.lemmas.Cmp.{tied_itself}
use Rattle.std.proofs.lemmas.Bool.{and_from, and_parts, or_right}
use Rattle.std.specs.List.{AllByRecursion}
use Rattle.std.specs.List.Sorted.{IsStrictlySortedBy}
use Rattle.std.specs.Ordering.{is_eq, is_lt}
use Rattle.std.specs.Prelude.{◌&&◌, ◌||◌, None, Some}
use Rattle.std.specs.declared.cmp.Ordering.TheVariants.{Equal, Greater, Less}
use Rattle.std.specs.declared.cmp.Ordering.{Ordering}
use Rattle.thor_value.proofs.NameOrders.{oref_exact, oref_total}
use Rattle.thor_value.specs.Names.{oref_cmp, same_oref}
use Rattle.thor_value.specs.declared.names.Oref.{Oref}
use Rattle.validation_queue.specs.Names.{IsInOrder, Rises, all_among, is_among, rises_after}

less : (o : Ordering) → is_lt o ≡ true → o ≡ Less
less Less h = refl
less Equal h = cc
less Greater h = cc

pub below_all : (x y : Oref) (xs : List Oref) → oref_cmp x y ≡ Less → AllByRecursion (λ z. oref_cmp y z ≡ Less) xs → AllByRecursion (λ z. oref_cmp x z ≡ Less) xs
below_all x y [] l h = tt
below_all x y (z ∷ zs) l h = (oref_total.trans x y z l h.0, below_all x y zs l h.1)

rise_from : (x : Oref) (xs : List Oref) → rises_after (Some x) xs ≡ true → AllByRecursion (λ y. oref_cmp x y ≡ Less) xs × Rises xs
unfolding IsStrictlySortedBy
rise_from x [] h = (tt, tt)
rise_from x (y ∷ ys) h =
    let p = and_parts (is_lt (oref_cmp x y)) (rises_after (Some y) ys) h in
    let l : oref_cmp x y ≡ Less = less (oref_cmp x y) p.0 in
    let q = rise_from y ys p.1 in
    ((l, below_all x y ys l q.0), (q.0, q.1))

pub rises_from_test : (xs : List Oref) → rises_after None xs ≡ true → Rises xs
unfolding IsStrictlySortedBy
rises_from_test [] h = tt
rises_from_test (x ∷ xs) h = let q = rise_from x xs h in (q.0, q.1)

test_from : (x : Oref) (xs : List Oref) → AllByRecursion (λ y. oref_cmp x y ≡ Less) xs → Rises xs → rises_after (Some x) xs ≡ true
unfolding IsStrictlySortedBy
test_from x [] a h = refl
test_from x (y ∷ ys) a h = and_from (is_lt (oref_cmp x y)) (rises_after (Some y) ys) (subst (λ (o : Ordering). is_lt o ≡ true) (sym a.0) refl) (test_from y ys h.0 h.1)

pub test_from_rises : (xs : List Oref) → Rises xs → rises_after None xs ≡ true
unfolding IsStrictlySortedBy
test_from_rises [] h = refl
test_from_rises (x ∷ xs) h = test_from x xs h.0 h.1

same : (o : Ordering) → is_eq o ≡ true → o ≡ Equal
same Equal h = refl
same Less h = cc
same Greater h = cc

-- a name that is among some names that are all among others
within_from : (names xs : List Oref) → all_among names xs ≡ true → (x : Oref) → is_among xs x ≡ true → is_among names x ≡ true
within_from names [] h x m = cc
within_from names (y ∷ ys) h x m =
    let p = and_parts (is_among names y) (all_among names ys) h in
    by (same_oref x y) refl m p.0 (λ n. within_from names ys p.1 x n)
  where
    by : (b : Bool) → same_oref x y ≡ b → (b || is_among ys x) ≡ true → is_among names y ≡ true → (is_among ys x ≡ true → is_among names x ≡ true) → is_among names x ≡ true
    by true e n h more = let f : x ≡ y = oref_exact x y (same (oref_cmp x y) e) in rw f h
    by false e n h more = more n

pub itself : (y : Oref) (b : Bool) → (same_oref y y || b) ≡ true
itself y b = let e : oref_cmp y y ≡ Equal = tied_itself oref_total y in rw e refl

all_from : (names xs : List Oref) → ((x : Oref) → is_among xs x ≡ true → is_among names x ≡ true) → all_among names xs ≡ true
all_from names [] h = refl
all_from names (y ∷ ys) h = and_from (is_among names y) (all_among names ys) (h y (itself y (is_among ys y))) (all_from names ys (λ x m. h x (or_right (same_oref x y) (is_among ys x) m)))

pub in_order_from : (read written : List Oref) → rises_after None read ≡ true → rises_after None written ≡ true → all_among read written ≡ true → IsInOrder read written
in_order_from read written r w h = record { reads_rise = rises_from_test read r; writes_rise = rises_from_test written w; within = within_from read written h }

pub all_read : (read written : List Oref) → IsInOrder read written → all_among read written ≡ true
all_read read written h = all_from read written h.within

-- what the parts of the test, made one behind the other, tell of the whole
pub not_in_order_reads : (read written : List Oref) → rises_after None read ≡ false → ¬ IsInOrder read written
not_in_order_reads read written h i = let e = test_from_rises read i.reads_rise in cc

pub not_in_order_writes : (read written : List Oref) → rises_after None written ≡ false → ¬ IsInOrder read written
not_in_order_writes read written h i = let e = test_from_rises written i.writes_rise in cc
