-- Sessions grow by one step of their fold, and what they are sent comes in the order of its places.
use Rattle.log_entries.specs.declared.request.Request.{Request}
use Rattle.spec_history.proofs.Growth.{length-state}
use Rattle.spec_history.specs.History.{Base, State, commit_of, epoch_of, put, start, state}
use Rattle.spec_trace.specs.Exact.{IsEndedIn, IsGoneIn}
use Rattle.spec_trace.specs.Messages.{InOrder, KeepsOrder, WaitsByPlace}
use Rattle.spec_history.specs.Requests.{is_upgrade, written}
use Rattle.spec_trace.specs.Session.{Ended, Grant, Invalid, Live, Notice, Page, Retired, Session, Stage, Upgrade, begun, bound, invalid_of, is_ended, is_live, is_silent, meet, move, moved, notice, or_retired, pass, place_of, push, rested, retired, session, session_from, session_lives, told, told_of, upto_of}
use Rattle.spec_trace.specs.Trace.{E, Item, M, entries}
use Rattle.spec_trace.specs.declared.mark.Mark.TheVariants as the
use Rattle.std.proofs.Common.{Bool, List, [], ap, arith, cond, inl, inr, rules, false, length, refl, subst, suc, take, true, zero, ℕ, ◌+◌, ◌++◌, ◌<◌, ◌≡◌, ◌≤◌, ◌∙◌, ◌∷◌}
use Rattle.std.specs.List.{filter, fold, slice_get}
use Rattle.std.specs.Option.{IfSome, option_map}
use Rattle.std.specs.Ordering.{nat_cmp}
use Rattle.std.specs.Prelude.{None, Option, Some, nat_eq, ◌⊎◌}
use Rattle.thor_value.specs.FiniteMap.{Map, has, keys}
use Rattle.thor_value.specs.declared.names.Oref.{Oref}

-- ---- one more item

-- the state behind some items
abbrev pub passed : Base → State → List Item → State
passed b S is = fold (pass b) S is

pub passed-entries : (b : Base) (S : State) (is : List Item) → passed b S is ≡ fold (put b) S (entries is)
passed-entries b S [] = refl
passed-entries b S (E e ∷ is) = passed-entries b (put b S e) is
passed-entries b S (M m ∷ is) = passed-entries b S is

session-from-end : (b : Base) (s : ℕ) (S : State) (v : Option Session) (is : List Item) (i : Item) → session_from b s S v (is ++ i ∷ []) ≡ meet b s (passed b S is) (session_from b s S v is) i
session-from-end b s S v [] i = refl
session-from-end b s S v (j ∷ is) i = session-from-end b s (pass b S j) (meet b s S v j) is i

pub session-end : (b : Base) (T : List Item) (i : Item) (s : ℕ) → session b (T ++ i ∷ []) s ≡ meet b s (state b (entries T)) (session b T s) i
session-end b T i s = session-from-end b s (start b) None T i ∙ ap (λ S. meet b s S (session b T s) i) (passed-entries b (start b) T)

-- ---- the order of places

-- what the last of some messages makes known, and a where there is none
abbrev last_bound : ℕ → List Notice → ℕ
last_bound a ms = fold (λ n m. bound m) a ms

place_below : (m : Notice) → place_of m ≤ bound m
place_below (Page p k) = omega arith
place_below (Grant p k) = omega arith
place_below (Invalid xs k) = omega arith
place_below (Upgrade n k) = omega arith

in-order-end : (a : ℕ) (ms : List Notice) (m : Notice) → InOrder a ms → last_bound a ms ≤ place_of m → InOrder a (ms ++ m ∷ [])
in-order-end a [] m h l = (l, tt)
in-order-end a (x ∷ xs) m h l = (h.0, in-order-end (bound x) xs m h.1 l)

last-bound-end : (a : ℕ) (ms : List Notice) (m : Notice) → last_bound a (ms ++ m ∷ []) ≡ bound m
last-bound-end a [] m = refl
last-bound-end a (x ∷ xs) m = last-bound-end (bound x) xs m

above-start : (a : ℕ) (ms : List Notice) (t : ℕ) → InOrder a ms → a ≤ last_bound a (take t ms)
above-start a [] zero h = omega arith
above-start a [] (suc t) h = omega arith
above-start a (x ∷ xs) zero h = omega arith
above-start a (x ∷ xs) (suc t) h = let e = above-start (bound x) xs t h.1 in let l = place_below x in let k = h.0 in omega arith

from-start : (a : ℕ) (ms : List Notice) (i : ℕ) (m : Notice) → InOrder a ms → slice_get ms i ≡ Some m → a ≤ place_of m
from-start a [] i m h is = cc
from-start a (x ∷ xs) zero m h is = let e : x ≡ m = cc in subst (λ (n : Notice). a ≤ place_of n) e h.0
from-start a (x ∷ xs) (suc i) m h is = let e = from-start (bound x) xs i m h.1 is in let l = place_below x in let k = h.0 in omega arith

-- a message that was taken is known
known : (a : ℕ) (ms : List Notice) (t i : ℕ) (m : Notice) → InOrder a ms → slice_get ms i ≡ Some m → i < t → bound m ≤ last_bound a (take t ms)
known a [] t i m h is l = cc
known a (x ∷ xs) zero i m h is l = absurd (omega arith)
known a (x ∷ xs) (suc t) zero m h is l = let e : x ≡ m = cc in subst (λ (n : Notice). bound n ≤ last_bound (bound x) (take t xs)) e (above-start (bound x) xs t h.1)
known a (x ∷ xs) (suc t) (suc i) m h is l = known (bound x) xs t i m h.1 is (omega arith)

-- and one that waits isn't
unknown : (a : ℕ) (ms : List Notice) (t i : ℕ) (m : Notice) → InOrder a ms → slice_get ms i ≡ Some m → t ≤ i → last_bound a (take t ms) ≤ place_of m
unknown a [] t i m h is l = cc
unknown a (x ∷ xs) zero i m h is l = from-start a (x ∷ xs) i m h is
unknown a (x ∷ xs) (suc t) zero m h is l = absurd (omega arith)
unknown a (x ∷ xs) (suc t) (suc i) m h is l = unknown (bound x) xs t i m h.1 is (omega arith)

pub waits-by-place : (v : Session) → InOrder v.began v.sent → WaitsByPlace v
waits-by-place v h = record {
  taken = λ i m is l. known v.began v.sent v.taken i m h is l;
  waits = λ i m is l. unknown v.began v.sent v.taken i m h is l;
  invalid = λ i names k is. (λ l. unknown v.began v.sent v.taken i (Invalid names k) h is l, λ l. not-taken i names k is l);
}
  where
    not-taken : (i : ℕ) (names : List Oref) (k : ℕ) → slice_get v.sent i ≡ Some (Invalid names k) → upto_of v ≤ k → v.taken ≤ i
    not-taken i names k is l = elim (sides v.taken i) [
      | inl le ↦ le
      | inr lt ↦ let e : k + 1 ≤ upto_of v = known v.began v.sent v.taken i (Invalid names k) h is lt in absurd (omega arith)
    ]
      where
        sides : (n m : ℕ) → (n ≤ m) ⊎ (m < n)
        sides n m = search (rules, arith)

-- ---- what one item sends

-- a message is of the place at which it was sent, and tells nothing of later ones
abbrev IsOf : ℕ → ℕ → Notice → Type 0
IsOf k n m = (place_of m ≡ k) × (bound m ≤ n)

invalid-is-of : (names : List Oref) (k n : ℕ) → k + 1 ≤ n → IfSome (invalid_of names k) (IsOf k n)
invalid-is-of [] k n h = tt
invalid-is-of (x ∷ xs) k n h = (refl, h)

told-is-of : (s : ℕ) (S : State) (pages : Map nat_cmp ℕ) (q : Request) → IfSome (told s S pages q) (IsOf S.length (S.length + 1))
told-is-of s S pages q = by (is_upgrade q) (nat_eq q.session s)
  where
    by : (u own : Bool) → IfSome (cond u (Some (Upgrade (epoch_of S + 1) S.length)) (cond own None (invalid_of (filter (λ x. has pages x.page) (keys (written q))) S.length))) (IsOf S.length (S.length + 1))
    by true own = (refl, omega arith)
    by false true = tt
    by false false = invalid-is-of (filter (λ x. has pages x.page) (keys (written q))) S.length (S.length + 1) (omega arith)

told-of-is-of : (s : ℕ) (S : State) (pages : Map nat_cmp ℕ) (cs : List (ℕ × Request)) → IfSome (told_of s S pages cs) (IsOf S.length (S.length + 1))
told-of-is-of s S pages [] = tt
told-of-is-of s S pages (c ∷ cs) = told-is-of s S pages c.1

answer-is-of : (own : Bool) (k : ℕ) (m : Notice) → IsOf k k m → IfSome (cond own (Some m) None) (IsOf k k)
answer-is-of true k m h = h
answer-is-of false k m h = tt

notice-is-of : (b : Base) (s : ℕ) (S : State) (pages : Map nat_cmp ℕ) (i : Item) → IfSome (notice b s S pages i) (IsOf S.length (pass b S i).length)
notice-is-of b s S pages (E e) = told-of-is-of s S pages (commit_of b S e)
notice-is-of b s S pages (M (the.Fetched n page upto)) = answer-is-of (nat_eq n s) S.length (Page page S.length) (refl, omega arith)
notice-is-of b s S pages (M (the.Granted n page)) = answer-is-of (nat_eq n s) S.length (Grant page S.length) (refl, omega arith)
notice-is-of b s S pages (M (the.Connected n c)) = tt
notice-is-of b s S pages (M (the.Took n k)) = tt
notice-is-of b s S pages (M (the.Drew n t)) = tt
notice-is-of b s S pages (M (the.Forgot t)) = tt
notice-is-of b s S pages (M (the.Refused n q r)) = tt

longer : (b : Base) (S : State) (i : Item) → S.length ≤ (pass b S i).length
longer b S (E e) = omega arith
longer b S (M m) = omega arith

push-keeps : (a k n : ℕ) (sent : List Notice) (o : Option Notice) → a ≤ n → InOrder a sent → last_bound a sent ≤ k → k ≤ n → IfSome o (IsOf k n) → InOrder a (push sent o) × (last_bound a (push sent o) ≤ n)
push-keeps a k n sent None an h l kn of = (h, omega arith)
push-keeps a k n sent (Some m) an h l kn of =
    (in-order-end a sent m h (rw of.0 l), rw (last-bound-end a sent m) of.1)

pub above-all : (a : ℕ) (ms : List Notice) → InOrder a ms → a ≤ last_bound a ms
above-all a [] h = omega arith
above-all a (x ∷ xs) h = let e = above-all (bound x) xs h.1 in let l = place_below x in let k = h.0 in omega arith

-- nothing that was sent makes more known than the last message
pub at-most-last : (a : ℕ) (ms : List Notice) (i : ℕ) (m : Notice) → InOrder a ms → slice_get ms i ≡ Some m → bound m ≤ last_bound a ms
at-most-last a [] i m h is = cc
at-most-last a (x ∷ xs) zero m h is = let e : x ≡ m = cc in subst (λ (n : Notice). bound n ≤ last_bound (bound x) xs) e (above-all (bound x) xs h.1)
at-most-last a (x ∷ xs) (suc i) m h is = at-most-last (bound x) xs i m h.1 is

-- and the taken messages make no more known than all
pub taken-below : (a : ℕ) (ms : List Notice) (t : ℕ) → InOrder a ms → last_bound a (take t ms) ≤ last_bound a ms
taken-below a [] zero h = omega arith
taken-below a [] (suc t) h = omega arith
taken-below a (x ∷ xs) zero h = above-all a (x ∷ xs) h
taken-below a (x ∷ xs) (suc t) h = taken-below (bound x) xs t h.1

-- what is known behind a message is what it makes known
pub bound-at : (a : ℕ) (ms : List Notice) (t : ℕ) (m : Notice) → slice_get ms t ≡ Some m → last_bound a (take (suc t) ms) ≡ bound m
bound-at a [] t m is = cc
bound-at a (x ∷ xs) zero m is = let e : x ≡ m = cc in ap bound e
bound-at a (x ∷ xs) (suc t) m is = bound-at (bound x) xs t m is

moved-keeps : (b : Base) (s : ℕ) (S : State) (v : Session) (i : Item) → KeepsOrder v S.length → KeepsOrder (moved b s S v i) (pass b S i).length
moved-keeps b s S v i h =
    let l = longer b S i in
    let below : last_bound v.began v.sent ≤ S.length = h.below in
    let start : v.began ≤ (pass b S i).length = le-trans v.began S.length (pass b S i).length h.began l in
    let both = push-keeps v.began S.length (pass b S i).length v.sent (notice b s S v.pages i) start h.rise below l (notice-is-of b s S v.pages i) in
    record { began = start; rise = both.0; below = both.1 }
  where
    le-trans : (x y z : ℕ) → x ≤ y → y ≤ z → x ≤ z
    le-trans x y z p q = omega arith

retired-keeps : (b : Base) (v : Session) (n : ℕ) → KeepsOrder v n → KeepsOrder (or_retired b v) n
retired-keeps b v n h = by (is_silent b.silence v)
  where
    by : (q : Bool) → KeepsOrder (cond q (record v { stage = retired v.stage }) v) n
    by true = record { began = h.began; rise = h.rise; below = h.below }
    by false = h

later-keeps : (v : Session) (n k : ℕ) → n ≤ k → KeepsOrder v n → KeepsOrder v k
later-keeps v n k l h = let p = h.began in let q = h.below in record { began = omega arith; rise = h.rise; below = omega arith }

move-keeps : (b : Base) (s : ℕ) (S : State) (i : Item) (v : Session) → KeepsOrder v S.length → KeepsOrder (move b s S i v) (pass b S i).length
move-keeps b s S i v h = by (session_lives v)
  where
    by : (q : Bool) → KeepsOrder (cond q (or_retired b (moved b s S v i)) (rested v i)) (pass b S i).length
    by true = retired-keeps b (moved b s S v i) (pass b S i).length (moved-keeps b s S v i h)
    by false =
        let k = later-keeps v S.length (pass b S i).length (longer b S i) h in
        record { began = k.began; rise = k.rise; below = k.below }

map-keeps : (b : Base) (s : ℕ) (S : State) (i : Item) (o : Option Session) → IfSome o (λ v. KeepsOrder v S.length) → IfSome (option_map (move b s S i) o) (λ v. KeepsOrder v (pass b S i).length)
map-keeps b s S i None h = tt
map-keeps b s S i (Some v) h = move-keeps b s S i v h

connect-keeps : (b : Base) (s : ℕ) (S : State) (n c : ℕ) (o : Option Session) → IfSome o (λ v. KeepsOrder v S.length) → IfSome (meet b s S o (M (the.Connected n c))) (λ v. KeepsOrder v S.length)
connect-keeps b s S n c o h = by (nat_eq n s)
  where
    by : (q : Bool) → IfSome (cond q (Some (begun c S.length)) (option_map (move b s S (M (the.Connected n c))) o)) (λ v. KeepsOrder v S.length)
    by true = record { began = omega arith; rise = tt; below = omega arith }
    by false = map-keeps b s S (M (the.Connected n c)) o h

meet-keeps : (b : Base) (s : ℕ) (S : State) (o : Option Session) (i : Item) → IfSome o (λ v. KeepsOrder v S.length) → IfSome (meet b s S o i) (λ v. KeepsOrder v (pass b S i).length)
meet-keeps b s S o (E e) h = map-keeps b s S (E e) o h
meet-keeps b s S o (M (the.Connected n c)) h = connect-keeps b s S n c o h
meet-keeps b s S o (M (the.Fetched n page upto)) h = map-keeps b s S (M (the.Fetched n page upto)) o h
meet-keeps b s S o (M (the.Granted n page)) h = map-keeps b s S (M (the.Granted n page)) o h
meet-keeps b s S o (M (the.Took n k)) h = map-keeps b s S (M (the.Took n k)) o h
meet-keeps b s S o (M (the.Drew n t)) h = map-keeps b s S (M (the.Drew n t)) o h
meet-keeps b s S o (M (the.Forgot t)) h = map-keeps b s S (M (the.Forgot t)) o h
meet-keeps b s S o (M (the.Refused n q r)) h = map-keeps b s S (M (the.Refused n q r)) o h

session-keeps : (b : Base) (s : ℕ) (S : State) (o : Option Session) (is : List Item) → IfSome o (λ v. KeepsOrder v S.length) → IfSome (session_from b s S o is) (λ v. KeepsOrder v (passed b S is).length)
session-keeps b s S o [] h = h
session-keeps b s S o (i ∷ is) h = session-keeps b s (pass b S i) (meet b s S o i) is (meet-keeps b s S o i h)

pub keeps-order : (b : Base) (T : List Item) (s : ℕ) → IfSome (session b T s) (λ v. KeepsOrder v (length (entries T)))
keeps-order b T s =
    let e : (passed b (start b) T).length ≡ length (entries T) = ap (λ (S : State). S.length) (passed-entries b (start b) T) ∙ length-state b (entries T) in
    subst (λ n. IfSome (session b T s) (λ v. KeepsOrder v n)) e (session-keeps b s (start b) None T tt)

all-wait : (o : Option Session) (n : ℕ) → IfSome o (λ v. KeepsOrder v n) → IfSome o (λ v. WaitsByPlace v)
all-wait None n h = tt
all-wait (Some v) n h = waits-by-place v h.rise

pub wait-by-place : (b : Base) (T : List Item) (s : ℕ) → IfSome (session b T s) (λ v. WaitsByPlace v)
wait-by-place b T s = all-wait (session b T s) (length (entries T)) (keeps-order b T s)

-- ---- the end of a session

-- one that has ended isn't live
pub ended_is_gone : (o : Option Session) → IsEndedIn o → IsGoneIn o
ended_is_gone None h = tt
ended_is_gone (Some v) h = by v.stage h
  where
    by : (t : Stage) → is_ended t ≡ true → is_live t ≡ false
    by Live e = cc
    by Retired e = refl
    by Ended e = refl
