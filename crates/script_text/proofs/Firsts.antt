-- What a text begins with is a part of it.
use Rattle.std.proofs.Common.{◌≡◌, ℕ, suc, ◌+◌, ◌≤◌, Bool, true, false, List, [], ◌∷◌, ◌++◌, length, take, drop, refl, sym, ap, ◌∙◌, subst, arith, ⊎_elim, take-append-drop}
use Rattle.std.specs.Prelude.{◌||◌, ◌&&◌, not, nat_lt, nat_eq, ◌==◌, map}
use Rattle.std.specs.List.{prefix_len, take_while, list_any, list_all, starts_with}
use Rattle.std.specs.Str.{bytes_eq}
use Rattle.std.specs.Str.Parse.{digits_value}
use Rattle.std.proofs.lemmas.Bool.{cond_both, cond-true, or_left, or_right, or_cases, or_parts, and_parts, and_from, eqb-true, ltb-false, false_from_ne_true, both_ways}
use Rattle.std.proofs.lemmas.List.Folds.{length-prefix_len}
use Rattle.std.proofs.lemmas.List.Sums.{take_while-cons}
use Rattle.thor_value.specs.Words.{is_text_byte}
use Rattle.script_text.specs.declared.token.TokenKind.{TokenKind}
use Rattle.script_text.specs.declared.token.TokenKind.TheVariants.{Name, Number, Keyword, Quoted}
use Rattle.script_text.specs.declared.piece.Piece.{Piece}
use Rattle.script_text.specs.declared.piece.Piece.TheVariants.{Gap, Lexeme as Piece_Lexeme, NoToken}
use Rattle.script_text.specs.Bytes.{is_newline, is_separator, is_letter, is_digit, is_word_byte}
use Rattle.script_text.specs.Words.{is_keyword, long_symbols, short_symbols, comment_mark, quotation_mark}
use Rattle.script_text.specs.Pieces.{word_piece, number_piece, quoted_piece, symbol_piece, first_piece}
use Rattle.script_text.specs.Grammar.{is_word, is_number, is_symbol, IsToken, Stops, EndsBefore, Part, Separator, Comment, Lexeme, bytes_of, IsPart, BeginsNothing}
use Rattle.script_text.proofs.Parts.{each_among, piece_for, part_piece}
use Rattle.script_text.proofs.Quoted.{quoted_length, quoted_taken, word_fits}

-- a separator or a comment
abbrev pub IsGap : Part → Type 0
IsGap (Separator b) = Unit {0}
IsGap (Comment body) = Unit {0}
IsGap (Lexeme kind text) = ⊥

-- the piece is a part at the front of the text
abbrev pub FirstPart : Piece → List ℕ → Type 0
FirstPart (Gap n) text = (part : Part) × IsGap part × (bytes_of part ≡ take n text) × IsPart part (drop n text)
FirstPart (Piece_Lexeme kind n) text = IsPart (Lexeme kind (take n text)) (drop n text)
FirstPart NoToken text = Unit {0}

-- what is taken from the front passes
taken_passes : (test : ℕ → Bool) (text : List ℕ) → list_all test (take_while test text) ≡ true
taken_passes test [] = refl
taken_passes test (b ∷ bs) =
    rw (take_while-cons test b bs)
    (cond_both (test b) (b ∷ take_while test bs) [] (λ l. list_all test l ≡ true) (λ e. and_from (test b) _ e (taken_passes test bs)) (λ e. refl))

-- what lies behind it doesn't begin so
stops_behind : (test : ℕ → Bool) (text : List ℕ) → Stops test (drop (prefix_len test text) text)
stops_behind test [] = tt
stops_behind test (b ∷ bs) =
    let n : ℕ = prefix_len test bs in
    let more : suc n ≡ 1 + n = omega arith in
    let P : ℕ → Type 0 = λ m. Stops test (drop m (b ∷ bs)) in
    cond_both (test b) (1 + n) 0 P (λ e. subst P more (stops_behind test bs)) (λ e. e)

-- a token of all bytes at the front that pass a test
front_part : (kind : TokenKind) (test : ℕ → Bool) (text : List ℕ) → IsToken kind (take_while test text) → EndsBefore kind (take_while test text) (drop (prefix_len test text) text)
    → FirstPart (Piece_Lexeme kind (length (take_while test text))) text
front_part kind test text token ends =
    let P : ℕ → Type 0 = λ n. FirstPart (Piece_Lexeme kind n) text in
    subst P (sym (length-prefix_len test text)) (token, ends)

taken_word : (b : ℕ) (bs : List ℕ) → is_letter b ≡ true → is_word (take_while is_word_byte (b ∷ bs)) ≡ true
taken_word b bs letter =
    let byte : is_word_byte b ≡ true = or_left (is_letter b || is_digit b) (b == 95) (or_left (is_letter b) (is_digit b) letter) in
    let is = take_while-cons is_word_byte b bs ∙ cond-true (is_word_byte b) _ _ byte in
    subst (λ l. is_word l ≡ true) (sym is) (and_from (is_letter b) _ letter (taken_passes is_word_byte bs))

taken_number : (b : ℕ) (bs : List ℕ) → is_digit b ≡ true → is_number (take_while is_digit (b ∷ bs)) ≡ true
taken_number b bs digit =
    let is = take_while-cons is_digit b bs ∙ cond-true (is_digit b) _ _ digit in
    subst (λ l. is_number l ≡ true) (sym is) (and_from (is_digit b) _ digit (taken_passes is_digit bs))

word_first : (b : ℕ) (bs : List ℕ) → is_letter b ≡ true → FirstPart (word_piece (take_while is_word_byte (b ∷ bs))) (b ∷ bs)
unfolding word_piece
word_first b bs letter =
    let text : List ℕ = b ∷ bs in
    let word : List ℕ = take_while is_word_byte text in
    cond_both (nat_lt 32 (length word)) _ _ (λ piece. FirstPart piece text)
    (λ long. tt)
    (λ short. cond_both (is_keyword word) Keyword Name (λ kind. FirstPart (Piece_Lexeme kind (length word)) text)
    (λ keyword. front_part Keyword is_word_byte text (taken_word b bs letter, ltb-false 32 (length word) short, keyword) (stops_behind is_word_byte text))
    (λ name. front_part Name is_word_byte text (taken_word b bs letter, ltb-false 32 (length word) short, name) (stops_behind is_word_byte text)))

number_first : (b : ℕ) (bs : List ℕ) → is_digit b ≡ true → FirstPart (number_piece (take_while is_digit (b ∷ bs))) (b ∷ bs)
unfolding number_piece
number_first b bs digit =
    let text : List ℕ = b ∷ bs in
    let digits : List ℕ = take_while is_digit text in
    cond_both (nat_lt 19 (length digits) || nat_lt 9223372036854775807 (digits_value 10 digits)) _ _ (λ piece. FirstPart piece text)
    (λ large. tt)
    (λ fits. let parts = or_parts (nat_lt 19 (length digits)) (nat_lt 9223372036854775807 (digits_value 10 digits)) fits in
    front_part Number is_digit text (taken_number b bs digit, ltb-false 19 (length digits) parts.0, ltb-false 9223372036854775807 (digits_value 10 digits) parts.1) (stops_behind is_digit text))

quoted_first : (bs : List ℕ) → FirstPart (quoted_piece (take_while is_text_byte bs) (drop (prefix_len is_text_byte bs) bs)) (quotation_mark ∷ bs)
unfolding quoted_piece
quoted_first bs =
    let word : List ℕ = take_while is_text_byte bs in
    let P : Piece → Type 0 = λ piece. FirstPart piece (quotation_mark ∷ bs) in
    cond_both (nat_lt 32 (length word)) _ _ P
    (λ long. tt)
    (λ short. cond_both (starts_with nat_eq (drop (prefix_len is_text_byte bs) bs) (quotation_mark ∷ [])) _ _ P
    (λ closed.
    let fits = word_fits word (ltb-false 32 (length word) short) (taken_passes is_text_byte bs) in
    subst (λ (n : ℕ). P (Piece_Lexeme Quoted n)) (quoted_length word) (record { word = word; fits = fits; is = quoted_taken bs closed }, tt))
    (λ unclosed. tt))

comment_first : (b : ℕ) (bs : List ℕ) → starts_with nat_eq (b ∷ bs) comment_mark ≡ true → FirstPart (Gap (prefix_len (λ c. not (is_newline c)) (b ∷ bs))) (b ∷ bs)
comment_first b [] starts = absurd (both_ways false refl (and_parts (nat_eq 47 b) false starts).1)
comment_first b (c ∷ cs) starts =
    let goes : ℕ → Bool = λ d. not (is_newline d) in
    let first = and_parts (nat_eq 47 b) (nat_eq 47 c && true) starts in
    let second = and_parts (nat_eq 47 c) true first.1 in
    let m : ℕ = prefix_len goes cs in
    let n : suc (suc m) ≡ 1 + (1 + m) = omega arith in
    let marked : FirstPart (Gap (1 + (1 + m))) (47 ∷ 47 ∷ cs) =
    subst (λ k. FirstPart (Gap k) (47 ∷ 47 ∷ cs)) n (Comment (take m cs), tt, refl, (taken_passes goes cs, stops_behind goes cs)) in
    subst (λ x. FirstPart (Gap (prefix_len goes (x ∷ c ∷ cs))) (x ∷ c ∷ cs)) (eqb-true 47 b first.0)
    (subst (λ y. FirstPart (Gap (prefix_len goes (47 ∷ y ∷ cs))) (47 ∷ y ∷ cs)) (eqb-true 47 c second.0) marked)

-- no symbol has more than two bytes
short_text : (text : List ℕ) → is_symbol text ≡ true → length text ≤ 2
short_text text is =
    each_among (λ t. length t ≤ 2) (long_symbols ++ map (λ b. b ∷ []) short_symbols) text
    (omega arith, (omega arith, (omega arith, (omega arith, (omega arith, (omega arith, (omega arith, (omega arith, (omega arith, (omega arith, (omega arith, (omega arith, (omega arith, (omega arith, tt)))))))))))))) is

-- one of two is one of more, and what is none of the two is one of the others
of_more : (x y others : Bool) → (x || (y || false)) ≡ true → (x || (y || others)) ≡ true
of_more true y others is = refl
of_more false true others is = refl
of_more false false others is = cc

of_others : (x y others : Bool) → (x || (y || false)) ≡ false → (x || (y || others)) ≡ true → others ≡ true
of_others true y others none is = cc
of_others false true others none is = cc
of_others false false others none is = is

-- a byte that is one of some is, as a text, one of their texts
single : (b : ℕ) (symbols : List ℕ) → list_any (λ symbol. symbol == b) symbols ≡ true → list_any (λ text. bytes_eq text (b ∷ [])) (map (λ s. s ∷ []) symbols) ≡ true
single b [] is = cc
single b (s ∷ ss) is =
    ⊎_elim (λ here. or_left _ _ (and_from (nat_eq s b) true here refl)) (λ later. or_right (bytes_eq (s ∷ []) (b ∷ [])) _ (single b ss later))
    (or_cases (nat_eq s b) (list_any (λ symbol. symbol == b) ss) is)

-- two bytes are no text of one
no_single : (b c : ℕ) (symbols : List ℕ) → list_any (λ text. bytes_eq text (b ∷ c ∷ [])) (map (λ s. s ∷ []) symbols) ≡ true → ⊥
no_single b c [] is = cc
no_single b c (s ∷ ss) is =
    ⊎_elim (λ here. both_ways false refl (and_parts (nat_eq s b) false here).1) (λ later. no_single b c ss later)
    (or_cases (bytes_eq (s ∷ []) (b ∷ c ∷ [])) (list_any (λ text. bytes_eq text (b ∷ c ∷ [])) (map (λ s. s ∷ []) ss)) is)

-- behind a symbol of two bytes it doesn't go on
long_stops : (b : ℕ) (bs : List ℕ) → Stops (λ d. is_symbol (take 2 (b ∷ bs) ++ d ∷ [])) (drop 2 (b ∷ bs))
long_stops b [] = tt
long_stops b (c ∷ []) = tt
long_stops b (c ∷ d ∷ ds) = false_from_ne_true (is_symbol (b ∷ c ∷ d ∷ [])) (λ is. absurd (omega (arith, short_text (b ∷ c ∷ d ∷ []) is)))

-- nor behind one of one byte, where none of two stands
short_stops : (b : ℕ) (bs : List ℕ) → list_any (starts_with nat_eq (b ∷ bs)) long_symbols ≡ false → Stops (λ c. is_symbol (b ∷ c ∷ [])) bs
short_stops b [] none = tt
short_stops b (c ∷ cs) none = false_from_ne_true (is_symbol (b ∷ c ∷ [])) (λ is.
    no_single b c short_symbols (of_others (bytes_eq (61 ∷ 61 ∷ []) (b ∷ c ∷ [])) (bytes_eq (33 ∷ 61 ∷ []) (b ∷ c ∷ [])) _ none is))

symbol_first : (b : ℕ) (bs : List ℕ) → FirstPart (symbol_piece (b ∷ bs)) (b ∷ bs)
unfolding symbol_piece
symbol_first b bs =
    let text : List ℕ = b ∷ bs in
    cond_both (list_any (starts_with nat_eq text) long_symbols) _ _ (λ piece. FirstPart piece text)
    (λ long. (
      of_more (bytes_eq (61 ∷ 61 ∷ []) (take 2 text)) (bytes_eq (33 ∷ 61 ∷ []) (take 2 text)) _ long,
      long_stops b bs,
    ))
    (λ not_long. cond_both (list_any (λ symbol. symbol == b) short_symbols) _ _ (λ piece. FirstPart piece text)
    (λ short. (
      or_right (nat_eq 61 b && false) _ (or_right (nat_eq 33 b && false) _ (single b short_symbols short)),
      short_stops b bs not_long,
    ))
    (λ none. tt))

pub first_part : (b : ℕ) (bs : List ℕ) → FirstPart (first_piece (b ∷ bs)) (b ∷ bs)
unfolding first_piece
first_part b bs =
    let text : List ℕ = b ∷ bs in
    let P : Piece → Type 0 = λ piece. FirstPart piece text in
    cond_both (is_letter b) _ _ P
    (λ letter. word_first b bs letter)
    (λ no_letter. cond_both (is_digit b) _ _ P
    (λ digit. number_first b bs digit)
    (λ no_digit. cond_both (is_separator b) _ _ P
    (λ separates. (Separator b, tt, refl, separates))
    (λ no_separator. cond_both (starts_with nat_eq text comment_mark) _ _ P
    (λ comment. comment_first b bs comment)
    (λ no_comment. cond_both (b == quotation_mark) _ _ P
    (λ mark. subst (λ (c : ℕ). FirstPart (quoted_piece (take_while is_text_byte bs) (drop (prefix_len is_text_byte bs) bs)) (c ∷ bs)) (sym (eqb-true b quotation_mark mark)) (quoted_first bs))
    (λ no_mark. symbol_first b bs)))))

-- a part is a piece
part_is_some : (part : Part) → piece_for part ≡ NoToken → ⊥
part_is_some (Separator b) e = cc
part_is_some (Comment body) e = cc
part_is_some (Lexeme kind text) e = cc

-- where no token begins, nothing does
pub nothing_begins : (text : List ℕ) → first_piece text ≡ NoToken → BeginsNothing text
nothing_begins text none part behind whole is = part_is_some part (sym (part_piece part behind is) ∙ ap first_piece whole ∙ none)

-- and where nothing begins, no token does
none_if_nothing : (text : List ℕ) (piece : Piece) → FirstPart piece text → BeginsNothing text → piece ≡ NoToken
none_if_nothing text (Gap n) (part, gap, bytes, is) nothing = absurd (nothing part (drop n text) (ap (λ l. l ++ drop n text) bytes ∙ take-append-drop n text) is)
none_if_nothing text (Piece_Lexeme kind n) is nothing = absurd (nothing (Lexeme kind (take n text)) (drop n text) (take-append-drop n text) is)
none_if_nothing text NoToken is nothing = refl

pub no_token : (b : ℕ) (bs : List ℕ) → BeginsNothing (b ∷ bs) → first_piece (b ∷ bs) ≡ NoToken
no_token b bs nothing = none_if_nothing (b ∷ bs) (first_piece (b ∷ bs)) (first_part b bs) nothing
