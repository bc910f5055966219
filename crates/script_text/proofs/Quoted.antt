-- Texts between quotation marks.
use Rattle.std.proofs.Common.{◌≡◌, ℕ, ◌+◌, ◌≤◌, true, List, [], ◌∷◌, ◌++◌, length, take, drop, refl, sym, ap, ◌∙◌, arith, append_assoc, take-append-drop, length-append}
use Rattle.std.specs.Prelude.{nat_eq}
use Rattle.std.specs.List.{prefix_len, take_while, list_all, starts_with}
use Rattle.std.proofs.lemmas.Bool.{and_parts, and_from, eqb-true, leb-true, le-leb}
use Rattle.std.proofs.lemmas.List.{take_at}
use Rattle.thor_value.specs.Words.{fits_word, is_text_byte}
use Rattle.script_text.specs.Words.{quotation_mark}
use Rattle.script_text.specs.Grammar.{quoted}

-- a text between its marks has two bytes more
pub quoted_length : (word : List ℕ) → length (quoted word) ≡ length word + 2
quoted_length word = omega (arith, length-append word (quotation_mark ∷ []))

-- a text's bytes
pub word_few : (word : List ℕ) → fits_word word ≡ true → length word ≤ 32
word_few word fits = leb-true (length word) 32 (and_parts _ (list_all is_text_byte word) fits).0

pub word_all : (word : List ℕ) → fits_word word ≡ true → list_all is_text_byte word ≡ true
word_all word fits = (and_parts _ (list_all is_text_byte word) fits).1

pub word_fits : (word : List ℕ) → length word ≤ 32 → list_all is_text_byte word ≡ true → fits_word word ≡ true
word_fits word few all = and_from _ (list_all is_text_byte word) (le-leb (length word) 32 few) all

-- bytes that begin with a mark are one and others
marked : (bytes : List ℕ) → starts_with nat_eq bytes (quotation_mark ∷ []) ≡ true → (more : List ℕ) × (bytes ≡ quotation_mark ∷ more)
marked [] starts = cc
marked (b ∷ bs) starts = (bs, ap (λ c. c ∷ bs) (sym (eqb-true quotation_mark b (and_parts (nat_eq quotation_mark b) true starts).0)))

-- where a mark follows the bytes of a text, they stand between two
pub quoted_front : (bs : List ℕ) → starts_with nat_eq (drop (prefix_len is_text_byte bs) bs) (quotation_mark ∷ []) ≡ true
    → (more : List ℕ) × (quoted (take_while is_text_byte bs) ++ more ≡ quotation_mark ∷ bs)
quoted_front bs starts =
    let n : ℕ = prefix_len is_text_byte bs in
    let m = marked (drop n bs) starts in
    let whole : (take n bs ++ quotation_mark ∷ []) ++ m.0 ≡ bs =
    append_assoc (take n bs) (quotation_mark ∷ []) m.0 ∙ ap (λ (l : List ℕ). take n bs ++ l) (sym m.1) ∙ take-append-drop n bs in
    (m.0, ap (λ (l : List ℕ). quotation_mark ∷ l) whole)

-- so they are these many bytes at the front, before the others
pub quoted_taken : (bs : List ℕ) → starts_with nat_eq (drop (prefix_len is_text_byte bs) bs) (quotation_mark ∷ []) ≡ true
    → take (length (quoted (take_while is_text_byte bs))) (quotation_mark ∷ bs) ≡ quoted (take_while is_text_byte bs)
quoted_taken bs starts =
    let w : List ℕ = take_while is_text_byte bs in
    let f = quoted_front bs starts in
    ap (λ (l : List ℕ). take (length (quoted w)) l) (sym f.1) ∙ take_at (quoted w) f.0 (length (quoted w)) refl

pub quoted_within : (bs : List ℕ) → starts_with nat_eq (drop (prefix_len is_text_byte bs) bs) (quotation_mark ∷ []) ≡ true
    → length (take_while is_text_byte bs) + 2 ≤ length (quotation_mark ∷ bs)
quoted_within bs starts =
    let w : List ℕ = take_while is_text_byte bs in
    let f = quoted_front bs starts in
    omega (arith, quoted_length w, length-append (quoted w) f.0, ap length f.1)
