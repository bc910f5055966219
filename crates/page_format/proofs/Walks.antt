-- Walking over the objects of a page one after the other, as the loops do.
use Rattle.std.proofs.Common.{◌≡◌, ℕ, zero, suc, ◌+◌, ◌-◌, ◌<◌, ◌≤◌, Bool, true, false, cond, ltb, List, [], ◌∷◌, length, take, drop, Option, Some, None, refl, sym, ap, subst, ◌∙◌, arith, slice_get}
use Rattle.std.specs.Option.{option_map_or}
use Rattle.std.proofs.lemmas.Option.{slice_get_past}
use Rattle.std.specs.Ordering.{nat_cmp, match_ordering, is_eq}
use Rattle.std.specs.declared.cmp.Ordering.{Ordering}
use Rattle.std.specs.declared.cmp.Ordering.TheVariants.{Less, Equal, Greater}
use Rattle.std.specs.Cmp.{nat_cmp_is}
use Rattle.std.specs.BTreeMap.{is_at}
use Rattle.std.specs.Map.{lookup}
use Rattle.std.proofs.lemmas.Bool.{lt-ltb, le-ltb, ltb-false}
use Rattle.std.proofs.lemmas.Cmp.{ranked}
use Rattle.std.proofs.lemmas.List.{length-take, length-drop}
use Rattle.std.specs.Int.{w16, from_be_bytes}
use Rattle.page_format.specs.Walking.{first_at, pairs_of, behind_at, place_at, shifted}

abbrev pub First : Type 0
First = (ℕ × List ℕ) × List ℕ

one_more : (count i : ℕ) → i < count → count - i ≡ suc (count - (i + 1))
one_more count i lt = omega arith

none_more : (count i : ℕ) → count ≤ i → count - i ≡ 0
none_more count i le = omega arith

pub is_less : (x y : ℕ) → x < y → nat_cmp x y ≡ Less
is_less x y h = sym (nat_cmp_is x y Less h)

pub is_equal : (x y : ℕ) → x ≡ y → nat_cmp x y ≡ Equal
is_equal x y h = sym (nat_cmp_is x y Equal h)

pub is_greater : (x y : ℕ) → y < x → nat_cmp x y ≡ Greater
is_greater x y h = sym (nat_cmp_is x y Greater h)

-- ---- the objects

pub pairs_more : (n : ℕ) (bytes : List ℕ) (x : First) → first_at bytes ≡ Some x → pairs_of (suc n) bytes ≡ x.0 ∷ pairs_of n x.1
unfolding pairs_of
pairs_more n bytes x e = ap (λ (o : Option First). option_map_or (λ x. x.0 ∷ pairs_of n x.1) o []) e

pub pairs_none : (n : ℕ) (bytes : List ℕ) → first_at bytes ≡ None → pairs_of (suc n) bytes ≡ []
unfolding pairs_of
pairs_none n bytes e = ap (λ (o : Option First). option_map_or (λ x. x.0 ∷ pairs_of n x.1) o []) e

pub pairs_zero : (bytes : List ℕ) → pairs_of 0 bytes ≡ []
unfolding pairs_of
pairs_zero bytes = refl

-- ---- find

abbrev pub found_in : ℕ → List (ℕ × List ℕ) → Option (List ℕ)
found_in slot pairs = lookup (is_at (nat_cmp slot)) pairs

pub find_none : (count i slot : ℕ) (rest : List ℕ) (total : Option (List ℕ)) → i < count → None ≡ first_at rest → found_in slot (pairs_of (count - i) rest) ≡ total → None ≡ total
find_none count i slot rest total lt e so_far =
    let k = one_more count i lt in
    let p : pairs_of (count - i) rest ≡ [] = ap (λ (n : ℕ). pairs_of n rest) k ∙ pairs_none (count - (i + 1)) rest (sym e) in
    sym (ap (found_in slot) p) ∙ so_far

find_step : (count i slot : ℕ) (rest : List ℕ) (x : First) → i < count → first_at rest ≡ Some x → found_in slot (pairs_of (count - i) rest) ≡ cond (is_eq (nat_cmp slot x.0.0)) (Some x.0.1) (found_in slot (pairs_of (count - (i + 1)) x.1))
find_step count i slot rest x lt e =
    let k = one_more count i lt in
    ap (found_in slot) (ap (λ (n : ℕ). pairs_of n rest) k ∙ pairs_more (count - (i + 1)) rest x e)

pub find_here : (count i slot at : ℕ) (object after rest : List ℕ) (total : Option (List ℕ)) → i < count → Some ((at, object), after) ≡ first_at rest → at ≡ slot → found_in slot (pairs_of (count - i) rest) ≡ total → Some object ≡ total
find_here count i slot at object after rest total lt e same so_far =
    let s = find_step count i slot rest ((at, object), after) lt (sym e) in
    let t : is_eq (nat_cmp slot at) ≡ true = ap is_eq (is_equal slot at (sym same)) in
    sym (ap (λ (b : Bool). cond b (Some object) (found_in slot (pairs_of (count - (i + 1)) after))) t) ∙ sym s ∙ so_far

apart : (o : Ordering) (x y : ℕ) → o ≡ nat_cmp x y → (x ≡ y → ⊥) → is_eq o ≡ false
apart Less x y e n = refl
apart Equal x y e n = absurd (n (ranked x y Equal e))
apart Greater x y e n = refl

pub find_other : (count i slot at : ℕ) (object after rest : List ℕ) (total : Option (List ℕ)) → i < count → Some ((at, object), after) ≡ first_at rest → (at ≡ slot → ⊥) → found_in slot (pairs_of (count - i) rest) ≡ total → found_in slot (pairs_of (count - (i + 1)) after) ≡ total
find_other count i slot at object after rest total lt e other so_far =
    let s = find_step count i slot rest ((at, object), after) lt (sym e) in
    let t : is_eq (nat_cmp slot at) ≡ false = apart (nat_cmp slot at) slot at refl (λ h. other (sym h)) in
    sym (s ∙ ap (λ (b : Bool). cond b (Some object) (found_in slot (pairs_of (count - (i + 1)) after))) t) ∙ so_far

pub find_ends : (count i slot : ℕ) (rest : List ℕ) (total : Option (List ℕ)) → count ≤ i → found_in slot (pairs_of (count - i) rest) ≡ total → None ≡ total
find_ends count i slot rest total le so_far =
    let p : pairs_of (count - i) rest ≡ [] = ap (λ (n : ℕ). pairs_of n rest) (none_more count i le) ∙ pairs_zero rest in
    sym (ap (found_in slot) p) ∙ so_far

-- ---- what is behind the objects

pub behind_more : (n low : ℕ) (bytes : List ℕ) (x : First) → first_at bytes ≡ Some x → behind_at (suc n) low bytes ≡ cond (ltb x.0.0 low) None (behind_at n (suc x.0.0) x.1)
unfolding behind_at
behind_more n low bytes x e = ap (λ (o : Option First). option_map_or (λ x. cond (ltb x.0.0 low) None (behind_at n (suc x.0.0) x.1)) o None) e

pub behind_none : (n low : ℕ) (bytes : List ℕ) → first_at bytes ≡ None → behind_at (suc n) low bytes ≡ None
unfolding behind_at
behind_none n low bytes e = ap (λ (o : Option First). option_map_or (λ x. cond (ltb x.0.0 low) None (behind_at n (suc x.0.0) x.1)) o None) e

pub behind_zero : (low : ℕ) (bytes : List ℕ) → behind_at 0 low bytes ≡ Some bytes
unfolding behind_at
behind_zero low bytes = refl

pub behind_cut : (count i low : ℕ) (rest : List ℕ) (total : Option (List ℕ)) → i < count → None ≡ first_at rest → behind_at (count - i) low rest ≡ total → None ≡ total
behind_cut count i low rest total lt e so_far =
    sym (ap (λ (n : ℕ). behind_at n low rest) (one_more count i lt) ∙ behind_none (count - (i + 1)) low rest (sym e)) ∙ so_far

behind_step : (count i low at : ℕ) (object after rest : List ℕ) → i < count → Some ((at, object), after) ≡ first_at rest → behind_at (count - i) low rest ≡ cond (ltb at low) None (behind_at (count - (i + 1)) (suc at) after)
behind_step count i low at object after rest lt e =
    ap (λ (n : ℕ). behind_at n low rest) (one_more count i lt) ∙ behind_more (count - (i + 1)) low rest ((at, object), after) (sym e)

pub behind_low : (count i low at : ℕ) (object after rest : List ℕ) (total : Option (List ℕ)) → i < count → Some ((at, object), after) ≡ first_at rest → at < low → behind_at (count - i) low rest ≡ total → None ≡ total
behind_low count i low at object after rest total lt e less so_far =
    let s = behind_step count i low at object after rest lt e in
    sym (s ∙ ap (λ (b : Bool). cond b None (behind_at (count - (i + 1)) (suc at) after)) (lt-ltb at low less)) ∙ so_far

pub behind_on : (count i low at : ℕ) (object after rest : List ℕ) (total : Option (List ℕ)) → i < count → Some ((at, object), after) ≡ first_at rest → low ≤ at → behind_at (count - i) low rest ≡ total → behind_at (count - (i + 1)) (at + 1) after ≡ total
behind_on count i low at object after rest total lt e le so_far =
    let s = behind_step count i low at object after rest lt e in
    let next : suc at ≡ at + 1 = omega arith in
    subst (λ (k : ℕ). behind_at (count - (i + 1)) k after ≡ total) next (sym (s ∙ ap (λ (b : Bool). cond b None (behind_at (count - (i + 1)) (suc at) after)) (le-ltb at low le)) ∙ so_far)

pub behind_ends : (count i low : ℕ) (rest : List ℕ) (total : Option (List ℕ)) → count ≤ i → behind_at (count - i) low rest ≡ total → Some rest ≡ total
behind_ends count i low rest total le so_far = sym (ap (λ (n : ℕ). behind_at n low rest) (none_more count i le) ∙ behind_zero low rest) ∙ so_far

-- ---- the place of a slot

abbrev chosen : ℕ → ℕ → First → ℕ × ℕ
chosen n slot x = match_ordering (nat_cmp slot x.0.0) (0, 0) (0, 3 + length x.0.1) (shifted (3 + length x.0.1) (place_at n slot x.1))

pub place_more : (n slot : ℕ) (bytes : List ℕ) (x : First) → first_at bytes ≡ Some x → place_at (suc n) slot bytes ≡ chosen n slot x
unfolding place_at
place_more n slot bytes x e = ap (λ (o : Option First). option_map_or (λ x. chosen n slot x) o (0, 0)) e

pub place_none : (n slot : ℕ) (bytes : List ℕ) → first_at bytes ≡ None → place_at (suc n) slot bytes ≡ (0, 0)
unfolding place_at
place_none n slot bytes e = ap (λ (o : Option First). option_map_or (λ x. chosen n slot x) o (0, 0)) e

pub place_zero : (slot : ℕ) (bytes : List ℕ) → place_at 0 slot bytes ≡ (0, 0)
unfolding place_at
place_zero slot bytes = refl

at_start : (start : ℕ) → shifted start (0, 0) ≡ (start, start)
at_start start = let e : start + 0 ≡ start = omega arith in rw e refl

pub place_cut : (count i slot start : ℕ) (rest : List ℕ) (total : ℕ × ℕ) → i < count → None ≡ first_at rest → shifted start (place_at (count - i) slot rest) ≡ total → (start, start) ≡ total
place_cut count i slot start rest total lt e so_far =
    let p = ap (λ (n : ℕ). place_at n slot rest) (one_more count i lt) ∙ place_none (count - (i + 1)) slot rest (sym e) in
    sym (ap (shifted start) p ∙ at_start start) ∙ so_far

place_step : (count i slot start at : ℕ) (object after rest : List ℕ) → i < count → Some ((at, object), after) ≡ first_at rest → shifted start (place_at (count - i) slot rest) ≡ shifted start (chosen (count - (i + 1)) slot ((at, object), after))
place_step count i slot start at object after rest lt e =
    ap (shifted start) (ap (λ (n : ℕ). place_at n slot rest) (one_more count i lt) ∙ place_more (count - (i + 1)) slot rest ((at, object), after) (sym e))

pub place_before : (count i slot start at : ℕ) (object after rest : List ℕ) (total : ℕ × ℕ) → i < count → Some ((at, object), after) ≡ first_at rest → slot < at → shifted start (place_at (count - i) slot rest) ≡ total → (start, start) ≡ total
place_before count i slot start at object after rest total lt e less so_far =
    let s = place_step count i slot start at object after rest lt e in
    let o = ap (λ (r : Ordering). shifted start (match_ordering r (0, 0) (0, 3 + length object) (shifted (3 + length object) (place_at (count - (i + 1)) slot after)))) (is_less slot at less) in
    sym (s ∙ o ∙ at_start start) ∙ so_far

pub place_here : (count i slot start at : ℕ) (object after rest : List ℕ) (total : ℕ × ℕ) → i < count → Some ((at, object), after) ≡ first_at rest → slot ≡ at → shifted start (place_at (count - i) slot rest) ≡ total → (start, start + 3 + length object) ≡ total
place_here count i slot start at object after rest total lt e same so_far =
    let s = place_step count i slot start at object after rest lt e in
    let o = ap (λ (r : Ordering). shifted start (match_ordering r (0, 0) (0, 3 + length object) (shifted (3 + length object) (place_at (count - (i + 1)) slot after)))) (is_equal slot at same) in
    let first : start + 0 ≡ start = omega arith in
    let second : start + (3 + length object) ≡ start + 3 + length object = omega arith in
    let p : shifted start (0, 3 + length object) ≡ (start, start + 3 + length object) = rw (first, second) refl in
    sym (s ∙ o ∙ p) ∙ so_far

pub place_on : (count i slot start at : ℕ) (object after rest : List ℕ) (total : ℕ × ℕ) → i < count → Some ((at, object), after) ≡ first_at rest → at < slot → shifted start (place_at (count - i) slot rest) ≡ total → shifted (start + 3 + length object) (place_at (count - (i + 1)) slot after) ≡ total
place_on count i slot start at object after rest total lt e less so_far =
    let s = place_step count i slot start at object after rest lt e in
    let o = ap (λ (r : Ordering). shifted start (match_ordering r (0, 0) (0, 3 + length object) (shifted (3 + length object) (place_at (count - (i + 1)) slot after)))) (is_greater slot at less) in
    let place = place_at (count - (i + 1)) slot after in
    let first : start + (3 + length object + place.0) ≡ start + 3 + length object + place.0 = omega arith in
    let second : start + (3 + length object + place.1) ≡ start + 3 + length object + place.1 = omega arith in
    let p : shifted start (shifted (3 + length object) place) ≡ shifted (start + 3 + length object) place = pair_of _ _ _ _ first second in
    sym (s ∙ o ∙ p) ∙ so_far
  where
    pair_of : (a b c d : ℕ) → a ≡ c → b ≡ d → ◌≡◌ {A = ℕ × ℕ} (a, b) (c, d)
    pair_of a b c d e f = ap (λ (n : ℕ). (n, b)) e ∙ ap (λ (n : ℕ). (c, n)) f

pub place_ends : (count i slot start : ℕ) (rest : List ℕ) (total : ℕ × ℕ) → count ≤ i → shifted start (place_at (count - i) slot rest) ≡ total → (start, start) ≡ total
place_ends count i slot start rest total le so_far =
    let p = ap (λ (n : ℕ). place_at n slot rest) (none_more count i le) ∙ place_zero slot rest in
    sym (ap (shifted start) p ∙ at_start start) ∙ so_far

-- ---- lengths

pub first_shorter : (bytes : List ℕ) (at : ℕ) (object after : List ℕ) → Some ((at, object), after) ≡ first_at bytes → 3 + length object + length after ≡ length bytes
first_shorter [] at object after e = absurd cc
first_shorter (a ∷ []) at object after e = absurd cc
first_shorter (a ∷ b ∷ []) at object after e = absurd cc
first_shorter (a ∷ b ∷ c ∷ bytes) at object after e =
    let n = from_be_bytes w16 (b ∷ c ∷ []) in
    let p = guard (ltb (length bytes) n) ((a, take n bytes), drop n bytes) ((at, object), after) e in
    let le : n ≤ length bytes = ltb-false (length bytes) n p.0 in
    let o : length object ≡ n = ap (λ (x : First). length x.0.1) (sym p.1) ∙ length_front n bytes le in
    let r : length after ≡ length bytes - n = ap (λ (x : First). length x.1) (sym p.1) ∙ length-drop n bytes in
    omega arith
  where
    guard : (b : Bool) (x y : First) → Some y ≡ cond b None (Some x) → (b ≡ false) × (x ≡ y)
    guard true x y e = absurd cc
    guard false x y e = (refl, cc)

    length_front : (n : ℕ) (bytes : List ℕ) → n ≤ length bytes → length (take n bytes) ≡ n
    length_front n bytes le = omega (arith, length-take n bytes)

no_rest : (rest : List ℕ) → None ≡ Some rest → ⊥
no_rest rest h = cc

chosen_rest : (b : Bool) (o : Option (List ℕ)) (y : List ℕ) → cond b None o ≡ Some y → o ≡ Some y
chosen_rest true o y e = absurd cc
chosen_rest false o y e = e

rest_is : (x y : List ℕ) → Some x ≡ Some y → x ≡ y
rest_is x y e = cc

shorter_by : (n low : ℕ) (bytes rest : List ℕ) → ((k : ℕ) (left : List ℕ) → behind_at n k left ≡ Some rest → length rest ≤ length left)
    → behind_at (suc n) low bytes ≡ Some rest → (o : Option First) → first_at bytes ≡ o → length rest ≤ length bytes
shorter_by n low bytes rest others e None f = absurd (no_rest rest (sym (behind_none n low bytes f) ∙ e))
shorter_by n low bytes rest others e (Some x) f =
    let c = chosen_rest (ltb x.0.0 low) (behind_at n (suc x.0.0) x.1) rest (sym (behind_more n low bytes x f) ∙ e) in
    let r = others (suc x.0.0) x.1 c in
    let s = first_shorter bytes x.0.0 x.0.1 x.1 (sym f) in
    omega arith

pub behind_shorter : (n low : ℕ) (bytes rest : List ℕ) → behind_at n low bytes ≡ Some rest → length rest ≤ length bytes
behind_shorter zero low bytes rest e =
    let same : bytes ≡ rest = rest_is bytes rest (sym (behind_zero low bytes) ∙ e) in
    omega (arith, ap length same)
behind_shorter (suc n) low bytes rest e = shorter_by n low bytes rest (λ k left h. behind_shorter n k left rest h) e (first_at bytes) refl

-- ---- the object at a rank

pub nth_none : (count i k : ℕ) (rest : List ℕ) (total : Option (ℕ × List ℕ)) → i < count → None ≡ first_at rest → slice_get (pairs_of (count - i) rest) k ≡ total → None ≡ total
nth_none count i k rest total lt e so_far =
    let p : pairs_of (count - i) rest ≡ [] = ap (λ (n : ℕ). pairs_of n rest) (one_more count i lt) ∙ pairs_none (count - (i + 1)) rest (sym e) in
    sym (ap (λ (l : List (ℕ × List ℕ)). slice_get l k) p) ∙ so_far

nth_step : (count i k : ℕ) (rest : List ℕ) (x : First) → i < count → first_at rest ≡ Some x → slice_get (pairs_of (count - i) rest) k ≡ slice_get (x.0 ∷ pairs_of (count - (i + 1)) x.1) k
nth_step count i k rest x lt e = ap (λ (l : List (ℕ × List ℕ)). slice_get l k) (ap (λ (n : ℕ). pairs_of n rest) (one_more count i lt) ∙ pairs_more (count - (i + 1)) rest x e)

pub nth_on : (count i rank : ℕ) (q : ℕ × List ℕ) (after rest : List ℕ) (total : Option (ℕ × List ℕ)) → i < rank → rank < count → Some (q, after) ≡ first_at rest → slice_get (pairs_of (count - i) rest) (rank - i) ≡ total → slice_get (pairs_of (count - (i + 1)) after) (rank - (i + 1)) ≡ total
nth_on count i rank q after rest total lt within e so_far =
    let s = nth_step count i (rank - i) rest (q, after) (omega (arith, lt, within)) (sym e) in
    let k : rank - i ≡ suc (rank - (i + 1)) = omega (arith, lt) in
    sym (s ∙ ap (λ (n : ℕ). slice_get (q ∷ pairs_of (count - (i + 1)) after) n) k) ∙ so_far

pub nth_here : (count i rank : ℕ) (q : ℕ × List ℕ) (after rest : List ℕ) (total : Option (ℕ × List ℕ)) → i < count → rank ≤ i → Some (q, after) ≡ first_at rest → slice_get (pairs_of (count - i) rest) (rank - i) ≡ total → Some q ≡ total
nth_here count i rank q after rest total lt past e so_far =
    let s = nth_step count i (rank - i) rest (q, after) lt (sym e) in
    let k : rank - i ≡ 0 = omega (arith, past) in
    sym (s ∙ ap (λ (n : ℕ). slice_get (q ∷ pairs_of (count - (i + 1)) after) n) k) ∙ so_far

few_by : (n : ℕ) (o : Option First) → ((bytes : List ℕ) → length (pairs_of n bytes) ≤ n) → length (option_map_or (λ x. x.0 ∷ pairs_of n x.1) o []) ≤ suc n
few_by n None more = omega arith
few_by n (Some x) more = let h = more x.1 in omega arith

pub pairs_few : (n : ℕ) (bytes : List ℕ) → length (pairs_of n bytes) ≤ n
unfolding pairs_of
pairs_few zero bytes = omega arith
pairs_few (suc n) bytes = few_by n (first_at bytes) (λ more. pairs_few n more)

pub nth_past : (count rank : ℕ) (bytes : List ℕ) → count ≤ rank → None ≡ slice_get (pairs_of count bytes) rank
nth_past count rank bytes past = sym (slice_get_past (pairs_of count bytes) rank (let h = pairs_few count bytes in omega arith))
