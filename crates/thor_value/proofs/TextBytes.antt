-- The reader of texts is exact.
use Rattle.std.proofs.Common.{◌≡◌, ◌⊎◌, ℕ, zero, suc, ◌+◌, ◌-◌, ◌<◌, ◌≤◌, Bool, true, false, cond, ◌&&◌, ltb, leb, List, [], ◌∷◌, ◌++◌, length, take, drop, Option, Some, None, Result, Ok, Err, refl, sym, ap, subst, ◌∙◌, append_assoc, arith, inl, inr}
use Rattle.std.specs.List.{list_all}
use Rattle.std.specs.Prelude.{replicate}
use Rattle.std.proofs.lemmas.Bool.{ltb-false, ltb-true, le-ltb, lt-ltb, leb-true, le-leb, and_from}
use Rattle.std.proofs.lemmas.List.{drop-replicate, length-append, length-replicate, length-take, take_all, take_at, drop_at, take-append-drop}
use Rattle.std.proofs.lemmas.List.Folds.{list_all-append}
use Rattle.std.proofs.Math.Seq.{take-append-add, take-append_seam}
use Rattle.thor_value.specs.Formats.{BeginsOne, ◌>>=◌}
use Rattle.thor_value.specs.Words.{IsPadded, fits_word, is_text_byte, padded, word_from}
use Rattle.thor_value.specs.Reading.{below_at, word_bytes_at, word_at}
use Rattle.thor_value.specs.Spelling.{word_bytes}
use Rattle.thor_value.specs.declared.bytes.ReadFault.{ReadFault}
use Rattle.thor_value.specs.declared.bytes.ReadFault.TheVariants.{Short, BadTag}
use Rattle.thor_value.proofs.Exactness.{IsBytes, IsExact, exact_then}
use Rattle.thor_value.proofs.Fields.{exact_byte}

-- ---- what a text is

both_true : (b c : Bool) → (b && c) ≡ true → (b ≡ true) × (c ≡ true)
both_true true c e = (refl, e)
both_true false c e = absurd cc

second_false : (b c : Bool) → b ≡ true → (b && c) ≡ false → c ≡ false
second_false true c t e = e
second_false false c t e = absurd cc

first_false : (b c : Bool) → b ≡ false → (b && c) ≡ false
first_false true c e = absurd cc
first_false false c e = refl

then_false : (b c : Bool) → c ≡ false → (b && c) ≡ false
then_false true c e = e
then_false false c e = refl

pub few_letters : (w : List ℕ) → fits_word w ≡ true → length w ≤ 32
few_letters w e = leb-true (length w) 32 (both_true (leb (length w) 32) (list_all is_text_byte w) e).0

pub all_letters : (w : List ℕ) → fits_word w ≡ true → list_all is_text_byte w ≡ true
all_letters w e = (both_true (leb (length w) 32) (list_all is_text_byte w) e).1

pub makes_word : (w : List ℕ) → length w ≤ 32 → list_all is_text_byte w ≡ true → fits_word w ≡ true
makes_word w few all = and_from (leb (length w) 32) (list_all is_text_byte w) (le-leb (length w) 32 few) all

no_letters : (w : List ℕ) → length w ≤ 32 → fits_word w ≡ false → list_all is_text_byte w ≡ false
no_letters w few e = second_false (leb (length w) 32) (list_all is_text_byte w) (le-leb (length w) 32 few) e

no_word : (w : List ℕ) → list_all is_text_byte w ≡ false → fits_word w ≡ false
no_word w e = then_false (leb (length w) 32) (list_all is_text_byte w) e

-- so many letters
letters : ℕ → List ℕ
letters zero = []
letters (suc n) = 97 ∷ letters n

length-letters : (n : ℕ) → length (letters n) ≡ n
unfolding letters
length-letters zero = refl
length-letters (suc n) = ap suc (length-letters n)

letters_are : (n : ℕ) → list_all is_text_byte (letters n) ≡ true
unfolding letters
letters_are zero = refl
letters_are (suc n) = letters_are n

-- ---- so many bytes of a text

abbrev Read : Type 0
Read = List ℕ × List ℕ

abbrev bad : ReadFault → Result Read ReadFault
bad d = Err d

abbrev none : Option (List ℕ)
none = None

chosen_ok : (b c : Bool) (p x : Read) → cond b (cond c (Err Short) (Ok p)) (Err BadTag) ≡ Ok x → (b ≡ true) × (c ≡ false) × (p ≡ x)
chosen_ok true true p x e = absurd cc
chosen_ok true false p x e = (refl, refl, cc)
chosen_ok false c p x e = absurd cc

chosen_err : (b c : Bool) (p : Read) (d : ReadFault) → cond b (cond c (Err Short) (Ok p)) (Err BadTag) ≡ Err d → ((b ≡ true) × (c ≡ true) × (Short ≡ d)) ⊎ ((b ≡ false) × (BadTag ≡ d))
chosen_err true true p d e = inl (refl, refl, cc)
chosen_err true false p d e = absurd cc
chosen_err false c p d e = inr (refl, cc)

bad_is_not_short : BadTag ≡ Short → ⊥
bad_is_not_short e = cc

-- a text of so many bytes
abbrev HasLetters : ℕ → List ℕ → Type 0
HasLetters n w = (fits_word w ≡ true) × (length w ≡ n)

letters_found : (n : ℕ) (bytes : List ℕ) (x : Read) → IsBytes bytes → word_bytes_at n bytes ≡ Ok x → HasLetters n x.0 × (bytes ≡ x.0 ++ x.1)
letters_found n bytes x b e =
    let p = chosen_ok (fits_word (take n bytes)) (ltb (length bytes) n) (take n bytes, drop n bytes) x e in
    let long : n ≤ length bytes = ltb-false (length bytes) n p.1 in
    subst (λ (y : Read). HasLetters n y.0 × (bytes ≡ y.0 ++ y.1)) p.2 ((p.0, omega (arith, length-take n bytes, long)), sym (take-append-drop n bytes))

letters_again : (n : ℕ) (w rest : List ℕ) → HasLetters n w → word_bytes_at n (w ++ rest) ≡ Ok (w, rest)
letters_again n w rest h =
    let long : ltb (length (w ++ rest)) n ≡ false = le-ltb (length (w ++ rest)) n (omega (arith, length-append w rest, h.1)) in
    rw (take_at w rest n h.1, drop_at w rest n h.1, h.0, long) refl

begun : (n : ℕ) (bytes : List ℕ) → n ≤ 32 → fits_word bytes ≡ true → length bytes < n → BeginsOne (HasLetters n) (λ w. w) bytes
begun n bytes few word lt =
    let more = letters (n - length bytes) in
    let long : length (bytes ++ more) ≡ n = omega (arith, length-append bytes more, length-letters (n - length bytes), lt) in
    let all : list_all is_text_byte (bytes ++ more) ≡ true = list_all-append is_text_byte bytes more ∙ and_from (list_all is_text_byte bytes) (list_all is_text_byte more) (all_letters bytes word) (letters_are (n - length bytes)) in
    (bytes ++ more, more, (makes_word (bytes ++ more) (omega (arith, long, few)) all, long), refl, omega (arith, length-letters (n - length bytes), lt))

letters_begin : (n : ℕ) → n ≤ 32 → (bytes : List ℕ) → IsBytes bytes → word_bytes_at n bytes ≡ Err Short → BeginsOne (HasLetters n) (λ w. w) bytes
letters_begin n few bytes b e =
    elim (chosen_err (fits_word (take n bytes)) (ltb (length bytes) n) (take n bytes, drop n bytes) Short e) [
      | inl s ↦
          let lt : length bytes < n = ltb-true (length bytes) n s.1 in
          begun n bytes few (ap fits_word (sym (take_all n bytes (omega (arith, lt)))) ∙ s.0) lt
      | inr t ↦ absurd (bad_is_not_short t.1)
    ]

-- behind bytes that are no letters, whatever follows
cut_off : (n : ℕ) (bytes more : List ℕ) → n ≤ 32 → fits_word (take n bytes) ≡ false → fits_word (take n (bytes ++ more)) ≡ false
cut_off n bytes more few e =
    let none : list_all is_text_byte (take n bytes) ≡ false = no_letters (take n bytes) (omega (arith, length-take n bytes, few)) e in
    let parts : bytes ++ more ≡ take n bytes ++ (drop n bytes ++ more) = ap (λ (t : List ℕ). t ++ more) (sym (take-append-drop n bytes)) ∙ append_assoc (take n bytes) (drop n bytes) more in
    let rest : List ℕ = take (n - length (take n bytes)) (drop n bytes ++ more) in
    let count : n ≡ length (take n bytes) + (n - length (take n bytes)) = omega (arith, length-take n bytes) in
    let cut : take n (bytes ++ more) ≡ take n bytes ++ rest =
    ap (λ (t : List ℕ). take n t) parts
    ∙ ap (λ (k : ℕ). take k (take n bytes ++ (drop n bytes ++ more))) count
    ∙ take-append-add (take n bytes) (drop n bytes ++ more) (n - length (take n bytes)) in
    let all : list_all is_text_byte (take n bytes ++ rest) ≡ false = list_all-append is_text_byte (take n bytes) rest ∙ first_false (list_all is_text_byte (take n bytes)) (list_all is_text_byte rest) none in
    ap fits_word cut ∙ no_word (take n bytes ++ rest) all

letters_stay : (n : ℕ) → n ≤ 32 → (bytes more : List ℕ) (d : ReadFault) → IsBytes bytes → word_bytes_at n bytes ≡ Err d → (d ≡ Short → ⊥) → word_bytes_at n (bytes ++ more) ≡ Err d
letters_stay n few bytes more d b e other =
    elim (chosen_err (fits_word (take n bytes)) (ltb (length bytes) n) (take n bytes, drop n bytes) d e) [
      | inl s ↦ absurd (other (sym s.2))
      | inr t ↦ rw (cut_off n bytes more few t.0) (ap (λ (f : ReadFault). Err f) t.1)
    ]

exact_letters : (n : ℕ) → n ≤ 32 → IsExact (HasLetters n) (λ w. w) Short (word_bytes_at n)
exact_letters n few = record { found = letters_found n; again = letters_again n; begins = letters_begin n few; stays = letters_stay n few }

-- ---- a text

exact_count : IsExact (λ b. b < 33) (λ b. b ∷ []) Short (below_at 33)
exact_count = exact_byte Short (λ b. ltb b 33) (λ _. BadTag) (λ b. b < 33) (λ b h. lt-ltb b 33 h) (λ b h. ltb-true b 33 h) (0, omega arith) (λ b e. bad_is_not_short e)

pub exact_word : IsExact (λ w. fits_word w ≡ true) word_bytes Short word_at
unfolding word_at
exact_word =
    exact_then (λ b. b < 33) (λ b. b ∷ []) (λ w. fits_word w ≡ true) (λ w. w) word_bytes length Short (below_at 33) word_bytes_at
    exact_count
    (λ n h. exact_letters n (omega (arith, h)))
    (λ w h. let few = few_letters w h in (omega (arith, few), refl))
    (λ n h. (letters n, makes_word (letters n) (omega (arith, length-letters n, h)) (letters_are n), length-letters n))

-- ---- what the reader does

one_fault : (b : Bool) → cond b (bad Short) (bad BadTag) ≡ bad (cond b Short BadTag)
one_fault true = refl
one_fault false = refl

-- where the bytes end too early
pub word_cut : (n : ℕ) (bytes : List ℕ) → length bytes < n → word_bytes_at n bytes ≡ Err (cond (fits_word bytes) Short BadTag)
word_cut n bytes lt = rw (take_all n bytes (omega (arith, lt)), lt-ltb (length bytes) n lt) (one_fault (fits_word bytes))

from_some : (b : Bool) (front w : List ℕ) → Some w ≡ cond b (Some front) None → (b ≡ true) × (front ≡ w)
from_some true front w e = (refl, cc)
from_some false front w e = absurd cc

from_none : (b : Bool) (front : List ℕ) → none ≡ cond b (Some front) None → b ≡ false
from_none true front e = absurd cc
from_none false front e = refl

-- where there are enough, and they are a text or none
pub word_there : (n : ℕ) (bytes w : List ℕ) → n ≤ length bytes → Some w ≡ word_from (take n bytes) → word_bytes_at n bytes ≡ Ok (w, drop n bytes)
word_there n bytes w le e =
    let p = from_some (fits_word (take n bytes)) (take n bytes) w e in
    rw (p.0, le-ltb (length bytes) n le) (ap (λ (t : List ℕ). Ok (t, drop n bytes)) p.1)

pub word_not_there : (n : ℕ) (bytes : List ℕ) → none ≡ word_from (take n bytes) → word_bytes_at n bytes ≡ Err BadTag
word_not_there n bytes e = rw (from_none (fits_word (take n bytes)) (take n bytes) e) refl

-- ---- in memory

-- what is left of the room behind so many bytes
pub room_rest : (n : ℕ) → drop n (replicate {A = ℕ} 32 0) ≡ replicate {A = ℕ} (32 - n) 0
room_rest n = drop-replicate n 32 0

-- a text in its room
pub is_padded : (bytes : List ℕ) → length bytes ≤ 32 → fits_word bytes ≡ true → IsPadded (record { room = padded bytes; len = length bytes })
is_padded bytes few word =
    let front : take (length bytes) (padded bytes) ≡ bytes = take-append_seam bytes (replicate (32 - length bytes) 0) in
    record {
      room = ap padded (sym front);
      len = ap length (sym front);
      whole = omega (arith, length-append bytes (replicate (32 - length bytes) 0), length-replicate {A = ℕ} (32 - length bytes) 0, few);
      few = few;
      word = ap fits_word front ∙ word;
    }
