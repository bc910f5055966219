-- The place of an object in an invalid set, as a page is cached, places are acknowledged, and commits come.
use Rattle.cached_sets.proofs.Meaning.{same_test}
use Rattle.cached_sets.specs.Meaning.{unless_below}
use Rattle.log_entries.specs.declared.entry.Entry.{Entry}
use Rattle.log_entries.specs.declared.request.Request.{Request}
use Rattle.spec_history.proofs.Below.{within}
use Rattle.spec_history.specs.History.{Base, commits, start, writers}
use Rattle.spec_history.specs.Requests.{has_written}
use Rattle.spec_trace.specs.Session.{Session, cache, invalid_in, last_other, not_below, session_lives}
use Rattle.std.proofs.Common.{Bool, List, [], ap, arith, cond, false, length, nat_eq, nat_le, refl, sym, true, ◌+◌, ◌++◌, ◌<◌, ◌∙◌, ◌∷◌, ◌≡◌, ◌≤◌, ℕ}
use Rattle.std.proofs.lemmas.Bool.Decides.{nat_tests}
use Rattle.std.proofs.lemmas.Bool.{eqb-true, or_right}
use Rattle.std.proofs.lemmas.List.Sums.{fold-append}
use Rattle.std.proofs.lemmas.Cmp.{nat_eq_equiv}
use Rattle.std.specs.Cmp.{nat_cmp_total}
use Rattle.std.specs.List.{AllByRecursion, filter, fold}
use Rattle.std.specs.Option.{IfSome, is_some, option_and_then}
use Rattle.std.specs.Ordering.{nat_cmp}
use Rattle.std.specs.Prelude.{None, Option, Some, max, not, ◌&&◌, ◌||◌}
use Rattle.thor_value.proofs.FiniteMap.{get-insert}
use Rattle.thor_value.specs.FiniteMap.{Map, get, has, insert}
use Rattle.thor_value.specs.declared.names.Oref.{Oref}

-- ---- tests

at_most : (n m : ℕ) → n ≤ m → nat_le n m ≡ true
at_most n m h = grind (arith, nat_tests)

above : (n m : ℕ) → m < n → nat_le n m ≡ false
above n m h = grind (arith, nat_tests)

both_at_most : (a c k : ℕ) → nat_le (max a c) k ≡ (nat_le a k && nat_le c k)
both_at_most a c k = grind (arith, nat_tests)

or_false : (t : Bool) → (t || false) ≡ t
or_false true = refl
or_false false = refl

-- ---- the pages of a session

pub get_cache : (pages : Map nat_cmp ℕ) (page k p : ℕ) → get (cache pages page k) p ≡ cond (nat_eq page p && not (has pages page)) (Some k) (get pages p)
get_cache pages page k p = by (has pages page) (nat_eq page p) refl
  where
    put : (t : Bool) → nat_eq page p ≡ t → get (insert pages page k) p ≡ cond t (Some k) (get pages p)
    put t e = get-insert nat_cmp_total pages page k p ∙ ap (λ (u : Bool). cond u (Some k) (get pages p)) (same_test p page ∙ nat_eq_equiv.symm p page ∙ e)

    by : (t u : Bool) → nat_eq page p ≡ u → get (cond t pages (insert pages page k)) p ≡ cond (u && not t) (Some k) (get pages p)
    by true true e = refl
    by true false e = refl
    by false true e = put true e
    by false false e = put false e

pub has_cache : (pages : Map nat_cmp ℕ) (page k p : ℕ) → has (cache pages page k) p ≡ (has pages p || nat_eq page p)
has_cache pages page k p = ap (λ (o : Option ℕ). is_some o) (get_cache pages page k p) ∙ by (has pages page) refl (nat_eq page p) refl
  where
    by : (t : Bool) → has pages page ≡ t → (u : Bool) → nat_eq page p ≡ u → is_some (cond (u && not t) (Some k) (get pages p)) ≡ (has pages p || u)
    by true e true f =
        let a : page ≡ p = eqb-true page p f in
        let h : has pages p ≡ true = ap (λ (q : ℕ). has pages q) (sym a) ∙ e in
        h ∙ sym (or_right (has pages p) true refl)
    by true e false f = sym (or_false (has pages p))
    by false e true f = sym (or_right (has pages p) true refl)
    by false e false f = sym (or_false (has pages p))

-- ---- the place in the invalid set of a live session

-- where the page came at the first place, places below the second are acknowledged, and the last write by
-- another session is the third
abbrev pub place_where : Option ℕ → ℕ → Option ℕ → Option ℕ
place_where None a l = None
place_where (Some c) a l = option_and_then (not_below c a) l

pub live_place : (v : Session) (o l : Option ℕ) → session_lives v ≡ true → invalid_in v o l ≡ place_where o v.acked l
live_place v None l h = refl
live_place v (Some c) l h = ap (λ (t : Bool). cond t (option_and_then (not_below c v.acked) l) None) h

pub dead_place : (v : Session) (o l : Option ℕ) → session_lives v ≡ false → invalid_in v o l ≡ None
dead_place v None l h = refl
dead_place v (Some c) l h = ap (λ (t : Bool). cond t (option_and_then (not_below c v.acked) l) None) h

pub acknowledged_place : (o : Option ℕ) (a upto : ℕ) (l : Option ℕ) → option_and_then (unless_below upto) (place_where o a l) ≡ place_where o (max a upto) l
acknowledged_place None a upto l = refl
acknowledged_place (Some c) a upto None = refl
acknowledged_place (Some c) a upto (Some k) = by (nat_le c k) (nat_le a k) ∙ ap (λ (t : Bool). cond (nat_le c k && t) (Some k) None) (sym (both_at_most a upto k))
  where
    by : (x y : Bool) → option_and_then (unless_below upto) (cond (x && y) (Some k) None) ≡ cond (x && (y && nat_le upto k)) (Some k) None
    by true true = refl
    by true false = refl
    by false y = refl

-- a page that comes now was written by nobody since
pub new_place : (k a : ℕ) (l : Option ℕ) → IfSome l (λ j. j < k) → place_where (Some k) a l ≡ None
new_place k a None h = refl
new_place k a (Some j) h = ap (λ (t : Bool). cond (t && nat_le a j) (Some j) None) (above k j h)

pub cached_place : (pages : Map nat_cmp ℕ) (page k p a : ℕ) (l : Option ℕ) → IfSome l (λ j. j < k) → place_where (get (cache pages page k) p) a l ≡ place_where (get pages p) a l
cached_place pages page k p a l h = ap (λ (o : Option ℕ). place_where o a l) (get_cache pages page k p) ∙ by (has pages page) refl (nat_eq page p) refl
  where
    none : (o : Option ℕ) → is_some o ≡ false → o ≡ None
    none None e = refl
    none (Some c) e = cc

    by : (t : Bool) → has pages page ≡ t → (u : Bool) → nat_eq page p ≡ u → place_where (cond (u && not t) (Some k) (get pages p)) a l ≡ place_where (get pages p) a l
    by true e true f = refl
    by true e false f = refl
    by false e false f = refl
    by false e true f =
        let x : page ≡ p = eqb-true page p f in
        let g : get pages p ≡ None = none (get pages p) (ap (λ (q : ℕ). has pages q) (sym x) ∙ e) in
        new_place k a l h ∙ sym (ap (λ (o : Option ℕ). place_where o a l) g)

-- what is written now stands in the set
pub written_place : (c a k : ℕ) → c ≤ k → a ≤ k → place_where (Some c) a (Some k) ≡ Some k
written_place c a k p q = ap (λ (t : Bool). cond (t && nat_le a k) (Some k) None) (at_most c k p) ∙ ap (λ (t : Bool). cond t (Some k) None) (at_most a k q)

-- ---- the last write by another session

pub last_other-end : (s : ℕ) (cs ds : List (ℕ × Request)) → last_other s (cs ++ ds) ≡ fold (λ last c. cond (nat_eq c.1.session s) last (Some c.0)) (last_other s cs) ds
last_other-end s cs ds = fold-append (λ (last : Option ℕ) (c : ℕ × Request). cond (nat_eq c.1.session s) last (Some c.0)) None cs ds

kept_below : (n : ℕ) (f : ℕ × Request → Bool) (cs : List (ℕ × Request)) → AllByRecursion (λ c. c.0 < n) cs → AllByRecursion (λ c. c.0 < n) (filter f cs)
kept_below n f [] h = tt
kept_below n f (c ∷ cs) h = by (f c) (kept_below n f cs h.1)
  where
    by : (t : Bool) → AllByRecursion (λ d. d.0 < n) (filter f cs) → AllByRecursion (λ d. d.0 < n) (cond t (c ∷ filter f cs) (filter f cs))
    by true r = (h.0, r)
    by false r = r

last_below : (s n : ℕ) (l : Option ℕ) (cs : List (ℕ × Request)) → IfSome l (λ k. k < n) → AllByRecursion (λ c. c.0 < n) cs → IfSome (fold (λ last c. cond (nat_eq c.1.session s) last (Some c.0)) l cs) (λ k. k < n)
last_below s n l [] h g = h
last_below s n l (c ∷ cs) h g = last_below s n (cond (nat_eq c.1.session s) l (Some c.0)) cs (by (nat_eq c.1.session s)) g.1
  where
    by : (t : Bool) → IfSome (cond t l (Some c.0)) (λ k. k < n)
    by true = h
    by false = g.0

all_high : (n : ℕ) (cs : List (ℕ × Request)) → AllByRecursion (λ c. (0 ≤ c.0) × (c.0 < 0 + n)) cs → AllByRecursion (λ c. c.0 < n) cs
all_high n [] h = tt
all_high n (c ∷ cs) h = let l : c.0 < 0 + n = h.0.1 in (omega arith, all_high n cs h.1)

pub last_is_below : (b : Base) (H : List Entry) (s : ℕ) (x : Oref) → IfSome (last_other s (writers b H x)) (λ k. k < length H)
last_is_below b H s x = last_below s (length H) None (writers b H x) tt (kept_below (length H) (λ c. has_written c.1 x) (commits b H) (all_high (length H) (commits b H) (within b (start b) H)))
