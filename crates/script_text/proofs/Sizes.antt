-- A text that isn't empty begins with a piece of at least one byte, within it.
use Rattle.std.proofs.Common.{◌≡◌, ℕ, ◌≤◌, Bool, true, false, List, [], ◌∷◌, length, drop, arith, subst, refl}
use Rattle.std.specs.Prelude.{◌||◌, ◌&&◌, not, nat_lt, nat_eq, ◌==◌}
use Rattle.std.specs.List.{prefix_len, take_while, list_any, starts_with}
use Rattle.std.specs.Str.Parse.{digits_value}
use Rattle.std.proofs.lemmas.Bool.{cond_both, or_left, and_parts, eqb-true}
use Rattle.std.proofs.lemmas.List.Folds.{length-prefix_len}
use Rattle.std.proofs.lemmas.List.Sums.{prefix_len-le-length}
use Rattle.thor_value.specs.Words.{is_text_byte}
use Rattle.script_text.specs.declared.piece.Piece.{Piece}
use Rattle.script_text.specs.Bytes.{is_newline, is_separator, is_letter, is_digit, is_word_byte}
use Rattle.script_text.specs.Words.{long_symbols, short_symbols, comment_mark, quotation_mark}
use Rattle.script_text.specs.Pieces.{size, word_piece, number_piece, quoted_piece, symbol_piece, first_piece}
use Rattle.script_text.proofs.Quoted.{quoted_within}

-- the piece has at least one byte, and at most n
pub record Sized (piece : Piece) (n : ℕ) : Type 0 where
  pub some : 1 ≤ size piece
  pub within : size piece ≤ n

word_sized : (word : List ℕ) (n : ℕ) → 1 ≤ length word → length word ≤ n → Sized (word_piece word) n
unfolding word_piece
word_sized word n some within =
    cond_both (nat_lt 32 (length word)) _ _ (λ piece. Sized piece n)
    (λ long. record { some = omega arith; within = omega arith })
    (λ short. record { some = some; within = within })

number_sized : (digits : List ℕ) (n : ℕ) → 1 ≤ length digits → length digits ≤ n → Sized (number_piece digits) n
unfolding number_piece
number_sized digits n some within =
    cond_both (nat_lt 19 (length digits) || nat_lt 9223372036854775807 (digits_value 10 digits)) _ _ (λ piece. Sized piece n)
    (λ long. record { some = omega arith; within = omega arith })
    (λ short. record { some = some; within = within })

-- one byte begins no symbol of two
one_byte : (x y : Bool) → (x && false || (y && false || false)) ≡ true → ⊥
one_byte true true e = cc
one_byte true false e = cc
one_byte false true e = cc
one_byte false false e = cc

symbol_sized : (b : ℕ) (bs : List ℕ) → Sized (symbol_piece (b ∷ bs)) (length (b ∷ bs))
unfolding symbol_piece
symbol_sized b [] =
    cond_both (list_any (starts_with nat_eq (b ∷ [])) long_symbols) _ _ (λ piece. Sized piece 1)
    (λ long. absurd (one_byte (nat_eq 61 b) (nat_eq 33 b) long))
    (λ not_long. cond_both (list_any (λ symbol. symbol == b) short_symbols) _ _ (λ piece. Sized piece 1)
    (λ short. record { some = omega arith; within = omega arith })
    (λ none. record { some = omega arith; within = omega arith }))
symbol_sized b (c ∷ bs) =
    cond_both (list_any (starts_with nat_eq (b ∷ c ∷ bs)) long_symbols) _ _ (λ piece. Sized piece (length (b ∷ c ∷ bs)))
    (λ long. record { some = omega arith; within = omega arith })
    (λ not_long. cond_both (list_any (λ symbol. symbol == b) short_symbols) _ _ (λ piece. Sized piece (length (b ∷ c ∷ bs)))
    (λ short. record { some = omega arith; within = omega arith })
    (λ none. record { some = omega arith; within = omega arith }))

quoted_sized : (b : ℕ) (bs : List ℕ) → Sized (quoted_piece (take_while is_text_byte bs) (drop (prefix_len is_text_byte bs) bs)) (length (b ∷ bs))
unfolding quoted_piece
quoted_sized b bs =
    cond_both (nat_lt 32 (length (take_while is_text_byte bs))) _ _ (λ piece. Sized piece (length (b ∷ bs)))
    (λ long. record { some = omega arith; within = omega arith })
    (λ short. cond_both (starts_with nat_eq (drop (prefix_len is_text_byte bs) bs) (quotation_mark ∷ [])) _ _ (λ piece. Sized piece (length (b ∷ bs)))
    (λ closed. record { some = omega arith; within = omega (arith, quoted_within bs closed) })
    (λ unclosed. record { some = omega arith; within = omega arith }))

-- where the first byte passes a test, at least one does
passes_first : (test : ℕ → Bool) (b : ℕ) (bs : List ℕ) → test b ≡ true → 1 ≤ prefix_len test (b ∷ bs)
passes_first test b bs passes = rw passes (omega arith)

-- so what passes at the front is neither empty nor longer than the text
front_length : (test : ℕ → Bool) (b : ℕ) (bs : List ℕ) → test b ≡ true
    → (1 ≤ length (take_while test (b ∷ bs))) × (length (take_while test (b ∷ bs)) ≤ length (b ∷ bs))
front_length test b bs passes =
    let is = length-prefix_len test (b ∷ bs) in
    (omega (arith, is, passes_first test b bs passes), omega (arith, is, prefix_len-le-length test (b ∷ bs)))

-- a byte that begins a comment ends no line
slash_goes_on : (b : ℕ) → nat_eq 47 b ≡ true → not (is_newline b) ≡ true
slash_goes_on b e = subst (λ c. not (is_newline c) ≡ true) (eqb-true 47 b e) refl

pub first_sized : (b : ℕ) (bs : List ℕ) → Sized (first_piece (b ∷ bs)) (length (b ∷ bs))
unfolding first_piece
first_sized b bs =
    let P : Piece → Type 0 = λ piece. Sized piece (length (b ∷ bs)) in
    cond_both (is_letter b) _ _ P
    (λ letter. let l = front_length is_word_byte b bs (or_left (is_letter b || is_digit b) (b == 95) (or_left (is_letter b) (is_digit b) letter)) in word_sized _ _ l.0 l.1)
    (λ no_letter. cond_both (is_digit b) _ _ P
    (λ digit. let l = front_length is_digit b bs digit in number_sized _ _ l.0 l.1)
    (λ no_digit. cond_both (is_separator b) _ _ P
    (λ separates. record { some = omega arith; within = omega arith })
    (λ no_separator. cond_both (starts_with nat_eq (b ∷ bs) comment_mark) _ _ P
    (λ comment. record {
      some = passes_first (λ c. not (is_newline c)) b bs (slash_goes_on b (and_parts _ _ comment).0);
      within = prefix_len-le-length (λ c. not (is_newline c)) (b ∷ bs);
    })
    (λ no_comment. cond_both (b == quotation_mark) _ _ P
    (λ mark. quoted_sized b bs)
    (λ no_mark. symbol_sized b bs)))))
