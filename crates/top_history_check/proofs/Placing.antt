-- The places of a history's entries, entry by entry.
use Rattle.std.proofs.Common.{◌≡◌, ◌<◌, ◌≤◌, ◌+◌, ◌*◌, ℕ, zero, suc, Bool, true, false, cond, List, [], ◌∷◌, ◌++◌, length, take, get_or, Option, None, Some, refl, ap, sym, ◌∙◌, subst, arith, ◌==◌, ◌&&◌, ◌⊎◌}
use Rattle.std.proofs.lemmas.Bool.Decides.{nat_tests}
use Rattle.std.proofs.lemmas.Cmp.{nat_cmp_total}
use Rattle.std.proofs.lemmas.List.Elements.{filter-append}
use Rattle.std.proofs.lemmas.List.{length-take-le, take_more}
use Rattle.std.specs.Ordering.{eq_by_cmp, nat_cmp}
use Rattle.std.specs.Prelude.{slice_get}
use Rattle.thor_value.proofs.FiniteMap.{get-insert}
use Rattle.thor_value.specs.FiniteMap.{Map, empty, get, insert}
use Rattle.thor_value.specs.declared.values.Who.{Who}
use Rattle.serial_model.specs.Outcomes.{entries_of, same_who}
use Rattle.serial_model.specs.declared.entries.Did.{Did}
use Rattle.top_history_check.specs.Places.{Finds, IsAt, key}

pub nothing : Finds empty []
nothing who low = refl

-- an entry goes in front of those behind it
one : (d : Did) (who : Who) (b : Bool) → same_who d.who who ≡ b → entries_of (d ∷ []) who ≡ cond b (d ∷ []) []
one d who b e = ap (λ c. cond c (d ∷ []) []) e

behind : (h : List Did) (d : Did) (who : Who) (b : Bool) → same_who d.who who ≡ b → entries_of (h ++ d ∷ []) who ≡ entries_of h who ++ cond b (d ∷ []) []
behind h d who b e = filter-append (λ c. same_who c.who who) h (d ∷ []) ∙ ap (λ es. entries_of h who ++ es) (one d who b e)

append_nothing : {X : Type 0} (xs : List X) → xs ++ [] ≡ xs
append_nothing [] = refl
append_nothing (x ∷ xs) = ap (λ ys. x ∷ ys) (append_nothing xs)

get_before : {X : Type 0} (xs ys : List X) (n : ℕ) (x : X) → slice_get xs n ≡ Some x → slice_get (xs ++ ys) n ≡ Some x
get_before [] ys n x h = let bad : None ≡ Some x = h in cc
get_before (z ∷ xs) ys zero x h = h
get_before (z ∷ xs) ys (suc n) x h = get_before xs ys n x h

get_last : {X : Type 0} (xs : List X) (x : X) → slice_get (xs ++ x ∷ []) (length xs) ≡ Some x
get_last [] x = refl
get_last (z ∷ xs) x = get_last xs x

same_self : (who : Who) → same_who who who ≡ true
same_self who = let a : (who.client == who.client) ≡ true = grind (arith, nat_tests) in let b : (who.index == who.index) ≡ true = grind (arith, nat_tests) in ap (λ c. c && (who.index == who.index)) a ∙ b

one_key : (a b : Who) → a.index < 4294967296 → b.index < 4294967296 → key a ≡ key b → a ≡ b
one_key a b low low2 e = let c : a.client ≡ b.client = omega (arith, low, low2, e) in let i : a.index ≡ b.index = omega (arith, low, low2, e) in ap (λ n. record a { client = n }) c ∙ ap (λ n. record b { index = n }) i

other_who : (a b : Who) → (a ≡ b → ⊥) → same_who a b ≡ false
other_who a b differ = by_test (a.client == b.client) refl (a.index == b.index) refl
  where
    by_test : (x : Bool) → (a.client == b.client) ≡ x → (y : Bool) → (a.index == b.index) ≡ y → same_who a b ≡ false
    by_test false e y f = ap (λ c. c && (a.index == b.index)) e
    by_test true e false f = ap (λ c. c && (a.index == b.index)) e ∙ f
    by_test true e true f = absurd (differ (let c : a.client ≡ b.client = grind (arith, nat_tests, e) in let i : a.index ≡ b.index = grind (arith, nat_tests, f) in ap (λ n. record a { client = n }) c ∙ ap (λ n. record b { index = n }) i))

same_test : (a b : ℕ) → eq_by_cmp nat_cmp a b ≡ (a == b)
same_test a b = grind (arith, nat_tests)

kept : (h : List Did) (d : Did) (who : Who) (place : Option ℕ) → same_who d.who who ≡ false → IsAt h who place → IsAt (h ++ d ∷ []) who place
kept h d who None e at = behind h d who false e ∙ append_nothing (entries_of h who) ∙ at
kept h d who (Some place) e at = record {
  did = at.did;
  stands = get_before h (d ∷ []) place at.did at.stands;
  is_of = at.is_of;
  only = behind h d who false e ∙ append_nothing (entries_of h who) ∙ at.only;
}

new : (h : List Did) (d : Did) (who : Who) → who ≡ d.who → IsAt h d.who None → IsAt (h ++ d ∷ []) who (Some (length h))
new h d who e none = subst (λ w. IsAt (h ++ d ∷ []) w (Some (length h))) (sym e) record {
  did = d;
  stands = get_last h d;
  is_of = refl;
  only = behind h d d.who true (same_self d.who) ∙ ap (λ es. es ++ d ∷ []) none;
}

pub next : (places : Map nat_cmp ℕ) (h : List Did) (d : Did) → d.who.index < 4294967296 → get places (key d.who) ≡ None → Finds places h → Finds (insert places (key d.who) (length h)) (h ++ d ∷ [])
next places h d low none finds who who_low =
    subst (IsAt (h ++ d ∷ []) who) (sym (get-insert nat_cmp_total places (key d.who) (length h) (key who) ∙ ap (λ b. cond b (Some (length h)) (get places (key who))) (same_test (key who) (key d.who)))) (by_key (key who == key d.who) refl)
  where
    by_key : (b : Bool) → (key who == key d.who) ≡ b → IsAt (h ++ d ∷ []) who (cond b (Some (length h)) (get places (key who)))
    by_key true e = let k : key who ≡ key d.who = grind (arith, nat_tests, e) in new h d who (one_key who d.who who_low low k) (subst (IsAt h d.who) none (finds d.who low))
    by_key false e = kept h d who (get places (key who)) (other_who d.who who (λ same. let k : key who ≡ key d.who = ap key (sym same) in let t : (key who == key d.who) ≡ true = grind (arith, nat_tests, k) in cc)) (finds who who_low)

-- the entry at a place is put behind those before it
pub one_more : (places made : Map nat_cmp ℕ) (h : List Did) (i : ℕ) (d : Did) → i < length h → d ≡ get_or h i d → d.who.index < 4294967296 → get places (key d.who) ≡ None → made ≡ insert places (key d.who) i
    → Finds places (take i h) → Finds made (take (i + 1) h)
one_more places made h i d within is low none put finds =
    let P : List Did → Type 0 = λ es. Finds made es in
    let Q : Map nat_cmp ℕ → Type 0 = λ m. Finds m (take i h ++ d ∷ []) in
    let at : length (take i h) ≡ i = length-take-le i h (omega (arith, within)) in
    subst P (sym (take_more h i d within ∙ ap (λ (e : Did). take i h ++ e ∷ []) (sym is)))
    (subst Q (ap (insert places (key d.who)) at ∙ sym put) (next places (take i h) d low none finds))

-- the same where the entry is told by its place
pub one_more_at : (places made : Map nat_cmp ℕ) (h : List Did) (i : ℕ) (d : Did) → i < length h → d ≡ get_or h i d → (get_or h i d).who.index < 4294967296 → get places (key (get_or h i d).who) ≡ None → made ≡ insert places (key (get_or h i d).who) i
    → Finds places (take i h) → Finds made (take (i + 1) h)
one_more_at places made h i d within is low none put finds =
    let P : Did → Type 0 = λ e. e.who.index < 4294967296 in
    let Q : Did → Type 0 = λ e. get places (key e.who) ≡ None in
    let R : Did → Type 0 = λ e. made ≡ insert places (key e.who) i in
    one_more places made h i d within is (subst P (sym is) low) (subst Q (sym is) none) (subst R (sym is) put) finds
