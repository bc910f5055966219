-- A piece that is a token has at most 34 bytes.
use Rattle.std.proofs.Common.{◌≡◌, ℕ, ◌≤◌, Bool, true, false, List, [], ◌∷◌, length, drop, arith, refl}
use Rattle.std.specs.Prelude.{◌||◌, ◌==◌, nat_lt, nat_eq}
use Rattle.std.specs.List.{prefix_len, take_while, list_any, starts_with}
use Rattle.std.specs.Str.Parse.{digits_value}
use Rattle.std.proofs.lemmas.Bool.{cond_both, ltb-false}
use Rattle.thor_value.specs.Words.{is_text_byte}
use Rattle.script_text.specs.Bytes.{is_separator, is_letter, is_digit, is_word_byte}
use Rattle.script_text.specs.Words.{long_symbols, short_symbols, comment_mark, quotation_mark}
use Rattle.script_text.specs.Pieces.{IsShort, word_piece, number_piece, quoted_piece, symbol_piece, first_piece}

first_no : (a b : Bool) → (a || b) ≡ false → a ≡ false
first_no true b e = e
first_no false b e = refl

short_word : (word : List ℕ) → IsShort (word_piece word)
unfolding word_piece
short_word word =
    cond_both (nat_lt 32 (length word)) _ _ IsShort
    (λ long. tt)
    (λ short. let few : length word ≤ 32 = ltb-false 32 (length word) short in omega (arith, few))

short_number : (digits : List ℕ) → IsShort (number_piece digits)
unfolding number_piece
short_number digits =
    cond_both (nat_lt 19 (length digits) || nat_lt 9223372036854775807 (digits_value 10 digits)) _ _ IsShort
    (λ long. tt)
    (λ short.
    let few : length digits ≤ 19 = ltb-false 19 (length digits) (first_no (nat_lt 19 (length digits)) (nat_lt 9223372036854775807 (digits_value 10 digits)) short) in
    omega (arith, few))

short_symbol : (bytes : List ℕ) → IsShort (symbol_piece bytes)
unfolding symbol_piece
short_symbol [] = tt
short_symbol (b ∷ bs) =
    cond_both (list_any (starts_with nat_eq (b ∷ bs)) long_symbols) _ _ IsShort
    (λ long. omega arith)
    (λ not_long. cond_both (list_any (λ symbol. symbol == b) short_symbols) _ _ IsShort
    (λ short. omega arith)
    (λ none. tt))

short_quoted : (inside behind : List ℕ) → IsShort (quoted_piece inside behind)
unfolding quoted_piece
short_quoted inside behind =
    cond_both (nat_lt 32 (length inside)) _ _ IsShort
    (λ long. tt)
    (λ short. cond_both (starts_with nat_eq behind (quotation_mark ∷ [])) _ _ IsShort
    (λ closed. let few : length inside ≤ 32 = ltb-false 32 (length inside) short in omega (arith, few))
    (λ unclosed. tt))

pub short_first : (bytes : List ℕ) → IsShort (first_piece bytes)
unfolding first_piece
short_first [] = tt
short_first (b ∷ bs) =
    cond_both (is_letter b) _ _ IsShort
    (λ letter. short_word (take_while is_word_byte (b ∷ bs)))
    (λ no_letter. cond_both (is_digit b) _ _ IsShort
    (λ digit. short_number (take_while is_digit (b ∷ bs)))
    (λ no_digit. cond_both (is_separator b) _ _ IsShort
    (λ separates. tt)
    (λ no_separator. cond_both (starts_with nat_eq (b ∷ bs) comment_mark) _ _ IsShort
    (λ comment. tt)
    (λ no_comment. cond_both (b == quotation_mark) _ _ IsShort
    (λ mark. short_quoted (take_while is_text_byte bs) (drop (prefix_len is_text_byte bs) bs))
    (λ no_mark. short_symbol (b ∷ bs))))))
