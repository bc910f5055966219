-- What tearing does to the bytes of a disk in memory.
use Rattle.std.proofs.Common.{◌≡◌, ◌≢◌, ℕ, ◌+◌, ◌%◌, ◌<◌, ◌≤◌, min, Bool, true, false, cond, ◌&&◌, ◌||◌, nat_le, nat_lt, List, [], ◌∷◌, ◌++◌, length, take, drop, get_or, set, refl, ap, sym, ◌∙◌, arith, inl, inr, zero, suc, take-append-drop}
use Rattle.std.proofs.lemmas.List.{length-set, get_or-set_same, get_or-set_other, drop_all, append-nil}
use Rattle.std.proofs.lemmas.Grind.{same_number_lists}
use Rattle.std.proofs.lemmas.Bool.{cases_eq}
use Rattle.std.proofs.lemmas.Bool.Decides.{nat_tests}
use Rattle.disk_trait.specs.Images.{is_in}
use Rattle.disk_trait.specs.Change.{put_back}
use Rattle.disk_trait.specs.Record.{at_places, torn}

pub length-at_places : (f : ℕ → ℕ → ℕ) (i : ℕ) (bytes : List ℕ) → length (at_places f i bytes) ≡ length bytes
length-at_places f i [] = refl
length-at_places f i (byte ∷ bytes) = ap suc (length-at_places f (i + 1) bytes)

pub get_or-at_places : (f : ℕ → ℕ → ℕ) (i : ℕ) (bytes : List ℕ) (k : ℕ) → k < length bytes → get_or (at_places f i bytes) k 0 ≡ f (i + k) (get_or bytes k 0)
get_or-at_places f i [] k within = absurd (omega arith)
get_or-at_places f i (byte ∷ bytes) zero within = let e : i + 0 ≡ i = omega arith in rw e refl
get_or-at_places f i (byte ∷ bytes) (suc k) within =
    let e : i + 1 + k ≡ i + suc k = omega arith in
    get_or-at_places f (i + 1) bytes k (omega arith) ∙ ap (λ n. f n (get_or bytes k 0)) e

pub length-torn : (pick : ℕ) (ranges : List (ℕ × ℕ)) (bytes : List ℕ) → length (torn pick ranges bytes) ≡ length bytes
length-torn pick ranges bytes = length-at_places _ 0 bytes

pub get_or-torn : (pick : ℕ) (ranges : List (ℕ × ℕ)) (bytes : List ℕ) (k : ℕ) → k < length bytes → get_or (torn pick ranges bytes) k 0 ≡ cond (is_in ranges k) ((pick + k) % 256) (get_or bytes k 0)
get_or-torn pick ranges bytes k within =
    let e : 0 + k ≡ k = omega arith in
    get_or-at_places (λ i byte. cond (is_in ranges i) ((pick + i) % 256) byte) 0 bytes k within ∙ ap (λ n. cond (is_in ranges n) ((pick + n) % 256) (get_or bytes k 0)) e

-- only the places within the bytes count
pub torn_same : (pick : ℕ) (some all : List (ℕ × ℕ)) (bytes : List ℕ) → ((k : ℕ) → k < length bytes → is_in some k ≡ is_in all k) → torn pick some bytes ≡ torn pick all bytes
torn_same pick some all bytes alike =
    same_number_lists _ _ (length-torn pick some bytes ∙ sym (length-torn pick all bytes)) (λ k h.
    let within : k < length bytes = omega (arith, length-torn pick some bytes) in
    get_or-torn pick some bytes k within ∙ ap (λ b. cond b ((pick + k) % 256) (get_or bytes k 0)) (alike k within) ∙ sym (get_or-torn pick all bytes k within))

-- with no range nothing is torn
pub torn_none : (pick : ℕ) (bytes : List ℕ) → torn pick [] bytes ≡ bytes
torn_none pick bytes = same_number_lists _ _ (length-torn pick [] bytes) (λ k h. get_or-torn pick [] bytes k (omega (arith, length-torn pick [] bytes)))

cond_or : (a b : Bool) (p x : ℕ) → cond (a || b) p x ≡ cond b p (cond a p x)
cond_or true true p x = refl
cond_or true false p x = refl
cond_or false true p x = refl
cond_or false false p x = refl

pub is_in-append : (some more : List (ℕ × ℕ)) (i : ℕ) → is_in (some ++ more) i ≡ is_in some i || is_in more i
is_in-append [] more i = refl
is_in-append (range ∷ some) more i = or_more (nat_le range.0 i && nat_lt i range.1) (is_in some i) (is_in more i) (is_in-append some more i)
  where
    or_more : (a b c : Bool) → is_in (some ++ more) i ≡ b || c → a || is_in (some ++ more) i ≡ (a || b) || c
    or_more true b c e = refl
    or_more false b c e = e

-- ranges can be torn one after the other
pub torn_append : (pick : ℕ) (some more : List (ℕ × ℕ)) (bytes : List ℕ) → torn pick (some ++ more) bytes ≡ torn pick more (torn pick some bytes)
torn_append pick some more bytes =
    same_number_lists _ _ (length-torn pick (some ++ more) bytes ∙ sym (length-torn pick more (torn pick some bytes) ∙ length-torn pick some bytes)) (λ k h.
    let within : k < length bytes = omega (arith, length-torn pick (some ++ more) bytes) in
    get_or-torn pick (some ++ more) bytes k within
    ∙ ap (λ b. cond b ((pick + k) % 256) (get_or bytes k 0)) (is_in-append some more k)
    ∙ cond_or (is_in some k) (is_in more k) ((pick + k) % 256) (get_or bytes k 0)
    ∙ ap (cond (is_in more k) ((pick + k) % 256)) (sym (get_or-torn pick some bytes k within))
    ∙ sym (get_or-torn pick more (torn pick some bytes) k (omega (arith, length-torn pick some bytes))))

-- one place more of a range
module _ (pick from i : ℕ) (bytes : List ℕ) (begun : from ≤ i) (within : i < length bytes) where
  same_test : (k : ℕ) → k ≢ i → is_in ((from, i) ∷ []) k ≡ is_in ((from, i + 1) ∷ []) k
  same_test k other = grind (arith, nat_tests)

  hit : is_in ((from, i + 1) ∷ []) i ≡ true
  hit = grind (arith, nat_tests)

  pub torn_more : set (torn pick ((from, i) ∷ []) bytes) i ((pick + i) % 256) ≡ torn pick ((from, i + 1) ∷ []) bytes
  torn_more =
      let size = length-torn pick ((from, i) ∷ []) bytes in
      let at_i : get_or (set (torn pick ((from, i) ∷ []) bytes) i ((pick + i) % 256)) i 0 ≡ get_or (torn pick ((from, i + 1) ∷ []) bytes) i 0 =
      get_or-set_same (torn pick ((from, i) ∷ []) bytes) i ((pick + i) % 256) 0 (omega (arith, size)) ∙ sym (get_or-torn pick ((from, i + 1) ∷ []) bytes i within ∙ ap (λ b. cond b ((pick + i) % 256) (get_or bytes i 0)) hit) in
      same_number_lists (set (torn pick ((from, i) ∷ []) bytes) i ((pick + i) % 256)) (torn pick ((from, i + 1) ∷ []) bytes)
      (length-set (torn pick ((from, i) ∷ []) bytes) i ((pick + i) % 256) ∙ size ∙ sym (length-torn pick ((from, i + 1) ∷ []) bytes)) (λ (k : ℕ) (h : k < length (set (torn pick ((from, i) ∷ []) bytes) i ((pick + i) % 256))).
      let inside : k < length bytes = omega (arith, h, length-set (torn pick ((from, i) ∷ []) bytes) i ((pick + i) % 256), size) in
      elim (cases_eq k i) [
        | inl here ↦ rw here at_i
        | inr other ↦
            get_or-set_other (torn pick ((from, i) ∷ []) bytes) i k ((pick + i) % 256) 0 other ∙ get_or-torn pick ((from, i) ∷ []) bytes k inside
            ∙ ap (λ b. cond b ((pick + k) % 256) (get_or bytes k 0)) (same_test k other)
            ∙ sym (get_or-torn pick ((from, i + 1) ∷ []) bytes k inside)
      ])

-- at its first place a range has torn nothing yet
pub torn_begun : (pick from : ℕ) (bytes : List ℕ) → bytes ≡ torn pick ((from, from) ∷ []) bytes
torn_begun pick from bytes = sym (torn_same pick ((from, from) ∷ []) [] bytes (λ k within. grind (arith, nat_tests)) ∙ torn_none pick bytes)

-- a range ends with the bytes
pub torn_cut : (pick from end : ℕ) (bytes : List ℕ) → torn pick ((min from (min end (length bytes)), min end (length bytes)) ∷ []) bytes ≡ torn pick ((from, end) ∷ []) bytes
torn_cut pick from end bytes = torn_same pick ((min from (min end (length bytes)), min end (length bytes)) ∷ []) ((from, end) ∷ []) bytes (λ k within. cut_test k within)
  where
    cut_test : (k : ℕ) → k < length bytes → is_in ((min from (min end (length bytes)), min end (length bytes)) ∷ []) k ≡ is_in ((from, end) ∷ []) k
    cut_test k within = grind (arith, nat_tests)

-- the loop over a range has ended
pub torn_ended : (pick from end first place : ℕ) (bytes now : List ℕ) → first ≡ min from (min end (length bytes)) → place ≡ min end (length bytes) → now ≡ torn pick ((first, place) ∷ []) bytes → now ≡ torn pick ((from, end) ∷ []) bytes
torn_ended pick from end first place bytes now is_first is_place so_far =
    so_far ∙ ap (λ (f : ℕ). torn pick ((f, place) ∷ []) bytes) is_first ∙ ap (λ (p : ℕ). torn pick ((min from (min end (length bytes)), p) ∷ []) bytes) is_place ∙ torn_cut pick from end bytes

-- the tail behind what is the same, given back
pub tail_back : (new old : List ℕ) (n : ℕ) → n ≤ length new → take n new ≡ take n old → put_back (record { from = n; end = length new; old = drop n old }) new ≡ old
tail_back new old n within same =
    rw (same, drop_all (length new) new (omega arith)) (append-nil (take n old ++ drop n old) ∙ take-append-drop n old)
