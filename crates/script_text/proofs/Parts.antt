-- Where a part begins a text, that is the piece that the text begins with.
use Rattle.std.proofs.Common.{◌≡◌, ℕ, ◌≤◌, Bool, true, false, cond, List, [], ◌∷◌, ◌++◌, length, drop, refl, sym, ap, ◌∙◌, subst, arith, append_assoc, leb, ⊎_elim}
use Rattle.std.specs.Prelude.{◌||◌, ◌&&◌, not, nat_lt, nat_eq, ◌==◌, map}
use Rattle.std.specs.List.{prefix_len, take_while, list_any, list_all, AllByRecursion}
use Rattle.std.specs.Str.{bytes_eq}
use Rattle.std.specs.Str.Parse.{digits_value}
use Rattle.std.proofs.lemmas.Bool.{cond-true, cond-false, or_left, or_cases, or_parts, or_from, and_parts, and_from, and_left, leb-true, lt-leb, eqb-true, le-ltb}
use Rattle.std.proofs.lemmas.List.{drop_at, take_at}
use Rattle.std.proofs.lemmas.Slice.Eq.{bytes_eq-Decides}
use Rattle.thor_value.specs.Words.{fits_word, is_text_byte}
use Rattle.script_text.specs.declared.token.TokenKind.{TokenKind}
use Rattle.script_text.specs.declared.token.TokenKind.TheVariants.{Name, Number, Keyword, Symbol, Quoted}
use Rattle.script_text.specs.declared.piece.Piece.{Piece}
use Rattle.script_text.specs.declared.piece.Piece.TheVariants.{Gap, Lexeme as Piece_Lexeme}
use Rattle.script_text.specs.Bytes.{is_newline, is_separator, is_letter, is_digit, is_word_byte}
use Rattle.script_text.specs.Words.{is_keyword, long_symbols, quotation_mark, short_symbols}
use Rattle.script_text.specs.Pieces.{word_piece, number_piece, quoted_piece, symbol_piece, first_piece}
use Rattle.script_text.specs.Grammar.{is_word, is_number, is_symbol, quoted, Stops, EndsBefore, Part, Separator, Comment, Lexeme, bytes_of, IsPart}
use Rattle.script_text.proofs.Quoted.{quoted_length, word_all, word_few}

-- bytes that pass a test before a text that doesn't go on so are all that pass
pub prefix_whole : (test : ℕ → Bool) (xs behind : List ℕ) → list_all test xs ≡ true → Stops test behind → prefix_len test (xs ++ behind) ≡ length xs
prefix_whole test [] [] all stops = refl
prefix_whole test [] (b ∷ bs) all stops = rw stops refl
prefix_whole test (x ∷ xs) behind all stops =
    let parts = and_parts (test x) (list_all test xs) all in
    rw parts.0 (omega (arith, prefix_whole test xs behind parts.1 stops))

-- so they are what is taken
taken_whole : (test : ℕ → Bool) (xs behind : List ℕ) → list_all test xs ≡ true → Stops test behind → take_while test (xs ++ behind) ≡ xs
taken_whole test xs behind all stops = rw (prefix_whole test xs behind all stops) (take_at xs behind (length xs) refl)

-- a digit is no letter
digit_no_letter : (b : ℕ) → is_digit b ≡ true → is_letter b ≡ false
digit_no_letter b digit =
    let high : b ≤ 57 = leb-true b 57 (and_parts (leb 48 b) (leb b 57) digit).1 in
    or_from _ _ (and_left (leb 65 b) (leb b 90) (lt-leb 65 b (omega arith))) (and_left (leb 97 b) (leb b 122) (lt-leb 97 b (omega arith)))

-- the four separators
each_separator : (P : ℕ → Type 0) → P 9 → P 10 → P 13 → P 32 → (b : ℕ) → is_separator b ≡ true → P b
each_separator P tab line return space b is =
    let same = λ (n : ℕ) (here : P n) (e : nat_eq b n ≡ true). subst P (sym (eqb-true b n e)) here in
    ⊎_elim
    (λ before_space. ⊎_elim
    (λ before_return. ⊎_elim (same 9 tab) (same 10 line) (or_cases (b == 9) (b == 10) before_return))
    (same 13 return) (or_cases (b == 9 || b == 10) (b == 13) before_space))
    (same 32 space) (or_cases (b == 9 || b == 10 || b == 13) (b == 32) is)

-- what holds of each text of a list holds of one that is among them
pub each_among : (P : List ℕ → Type 0) (texts : List (List ℕ)) (text : List ℕ) → AllByRecursion P texts → list_any (λ t. bytes_eq t text) texts ≡ true → P text
each_among P [] text all is = cc
each_among P (t ∷ ts) text all is =
    ⊎_elim (λ here. subst P ((bytes_eq-Decides t text).0 here) all.0) (λ later. each_among P ts text all.1 later)
    (or_cases (bytes_eq t text) (list_any (λ u. bytes_eq u text) ts) is)

-- the piece that a part is
abbrev pub piece_for : Part → Piece
piece_for (Separator b) = Gap 1
piece_for (Comment body) = Gap (length (bytes_of (Comment body)))
piece_for (Lexeme kind text) = Piece_Lexeme kind (length text)

separator_piece : (b : ℕ) (behind : List ℕ) → is_separator b ≡ true → first_piece (b ∷ behind) ≡ Gap 1
unfolding first_piece
separator_piece b behind is = each_separator (λ c. first_piece (c ∷ behind) ≡ Gap 1) refl refl refl refl b is

comment_piece : (body behind : List ℕ) → list_all (λ b. not (is_newline b)) body ≡ true → Stops (λ b. not (is_newline b)) behind
    → first_piece (47 ∷ 47 ∷ body ++ behind) ≡ Gap (length (47 ∷ 47 ∷ body))
unfolding first_piece
comment_piece body behind all stops = ap Gap (omega (arith, prefix_whole (λ b. not (is_newline b)) body behind all stops))

-- a word's kind
word_kind : (word : List ℕ) (kind : TokenKind) → length word ≤ 32 → cond (is_keyword word) Keyword Name ≡ kind → word_piece word ≡ Piece_Lexeme kind (length word)
unfolding word_piece
word_kind word kind short is = cond-false (nat_lt 32 (length word)) _ _ (le-ltb 32 (length word) short) ∙ ap (λ k. Piece_Lexeme k (length word)) is

word_at_front : (word behind : List ℕ) → is_word word ≡ true → Stops is_word_byte behind → first_piece (word ++ behind) ≡ word_piece word
unfolding first_piece
word_at_front [] behind is stops = cc
word_at_front (b ∷ bs) behind is stops =
    let parts = and_parts (is_letter b) (list_all is_word_byte bs) is in
    let byte : is_word_byte b ≡ true = or_left (is_letter b || is_digit b) (b == 95) (or_left (is_letter b) (is_digit b) parts.0) in
    let all : list_all is_word_byte (b ∷ bs) ≡ true = and_from (is_word_byte b) (list_all is_word_byte bs) byte parts.1 in
    cond-true (is_letter b) _ _ parts.0 ∙ ap word_piece (taken_whole is_word_byte (b ∷ bs) behind all stops)

number_at_front : (digits behind : List ℕ) → is_number digits ≡ true → Stops is_digit behind → first_piece (digits ++ behind) ≡ number_piece digits
unfolding first_piece
number_at_front [] behind is stops = cc
number_at_front (b ∷ bs) behind is stops =
    let parts = and_parts (is_digit b) (list_all is_digit bs) is in
    cond-false (is_letter b) _ _ (digit_no_letter b parts.0) ∙ cond-true (is_digit b) _ _ parts.0 ∙ ap number_piece (taken_whole is_digit (b ∷ bs) behind is stops)

number_is : (digits : List ℕ) → length digits ≤ 19 → digits_value 10 digits ≤ 9223372036854775807 → number_piece digits ≡ Piece_Lexeme Number (length digits)
unfolding number_piece
number_is digits few small =
    cond-false (nat_lt 19 (length digits) || nat_lt 9223372036854775807 (digits_value 10 digits)) _ _
    (or_from _ _ (le-ltb 19 (length digits) few) (le-ltb 9223372036854775807 (digits_value 10 digits) small))

quoted_is : (word behind : List ℕ) → length word ≤ 32 → quoted_piece word (quotation_mark ∷ behind) ≡ Piece_Lexeme Quoted (length (quoted word))
unfolding quoted_piece
quoted_is word behind few = cond-false (nat_lt 32 (length word)) _ _ (le-ltb 32 (length word) few) ∙ ap (Piece_Lexeme Quoted) (sym (quoted_length word))

-- a text between its marks
quoted_here : (word behind : List ℕ) → fits_word word ≡ true → first_piece (quoted word ++ behind) ≡ Piece_Lexeme Quoted (length (quoted word))
unfolding first_piece
quoted_here word behind fits =
    let rest : List ℕ = quotation_mark ∷ behind in
    let long : prefix_len is_text_byte (word ++ rest) ≡ length word = prefix_whole is_text_byte word rest (word_all word fits) refl in
    let inside : take_while is_text_byte (word ++ rest) ≡ word = taken_whole is_text_byte word rest (word_all word fits) refl in
    let others : drop (prefix_len is_text_byte (word ++ rest)) (word ++ rest) ≡ rest = ap (λ n. drop n (word ++ rest)) long ∙ drop_at word rest (length word) refl in
    ap (λ (l : List ℕ). first_piece (quotation_mark ∷ l)) (append_assoc word (quotation_mark ∷ []) behind)
    ∙ ap (λ (l : List ℕ). quoted_piece l (drop (prefix_len is_text_byte (word ++ rest)) (word ++ rest))) inside
    ∙ ap (quoted_piece word) others
    ∙ quoted_is word behind (word_few word fits)

-- a symbol of one byte that no longer one begins with
abbrev SymbolHere : List ℕ → List ℕ → Type 0
SymbolHere behind text = EndsBefore Symbol text behind → first_piece (text ++ behind) ≡ Piece_Lexeme Symbol (length text)

equals_alone : (behind : List ℕ) → EndsBefore Symbol (61 ∷ []) behind → first_piece (61 ∷ behind) ≡ Piece_Lexeme Symbol 1
unfolding first_piece symbol_piece
equals_alone [] ends = refl
equals_alone (c ∷ behind) ends =
    let no_second : (nat_eq 61 c && true) ≡ false = (or_parts (nat_eq 61 c && true) _ ends).0 in
    cond-false (nat_eq 61 c && true || false) _ _ (or_from (nat_eq 61 c && true) false no_second refl)

symbol_here : (text behind : List ℕ) → is_symbol text ≡ true → SymbolHere behind text
unfolding first_piece symbol_piece
symbol_here text behind is =
    each_among (SymbolHere behind) (long_symbols ++ map (λ b. b ∷ []) short_symbols) text
    (λ ends. refl, (λ ends. refl, (λ ends. refl, (λ ends. refl, (λ ends. refl, (λ ends. refl, (λ ends. refl, (λ ends. refl, (λ ends. refl, (λ ends. equals_alone behind ends, (λ ends. refl, (λ ends. refl, (λ ends. refl, (λ ends. refl, tt)))))))))))))) is

pub part_piece : (part : Part) (behind : List ℕ) → IsPart part behind → first_piece (bytes_of part ++ behind) ≡ piece_for part
part_piece (Separator b) behind is = separator_piece b behind is
part_piece (Comment body) behind is = comment_piece body behind is.0 is.1
part_piece (Lexeme Name text) behind is = word_at_front text behind is.0.0 is.1 ∙ word_kind text Name is.0.1 (cond-false (is_keyword text) _ _ is.0.2)
part_piece (Lexeme Keyword text) behind is = word_at_front text behind is.0.0 is.1 ∙ word_kind text Keyword is.0.1 (cond-true (is_keyword text) _ _ is.0.2)
part_piece (Lexeme Number text) behind is = number_at_front text behind is.0.0 is.1 ∙ number_is text is.0.1 is.0.2
part_piece (Lexeme Symbol text) behind is = symbol_here text behind is.0 is.1
part_piece (Lexeme Quoted text) behind is = subst (λ (t : List ℕ). first_piece (t ++ behind) ≡ Piece_Lexeme Quoted (length t)) (sym is.0.is) (quoted_here is.0.word behind is.0.fits)
