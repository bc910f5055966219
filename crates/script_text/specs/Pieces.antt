-- How a text is cut into pieces: separators, comments and tokens, each as long as it can be. This project's.
use Rattle.std.specs.Prelude.{ℕ, zero, suc, ◌+◌, ◌-◌, ◌≤◌, not, ◌==◌, ◌||◌, nat_lt, nat_eq, List, [], ◌∷◌, drop, length, if◌then◌else◌, take_while}
use Rattle.std.specs.List.{list_any, prefix_len, starts_with}
use Rattle.std.specs.Str.Parse.{digits_value}
use Rattle.thor_value.specs.Words.{is_text_byte}
use Rattle.script_text.specs.declared.token.TokenKind.TheVariants.{Name, Number, Keyword, Symbol, Quoted}
use Rattle.script_text.specs.declared.piece.Piece.{Piece}
use Rattle.script_text.specs.declared.piece.Piece.TheVariants.{Gap, Lexeme, NoToken}
use Rattle.script_text.specs.Bytes.{is_newline, is_separator, is_letter, is_digit, is_word_byte}
use Rattle.script_text.specs.Words.{is_keyword, long_symbols, short_symbols, comment_mark, quotation_mark}

-- a word of at most 32 bytes is a keyword or a name
unfoldable pub word_piece : List ℕ → Piece
word_piece word =
    if nat_lt 32 (length word) then NoToken
    else Lexeme (if is_keyword word then Keyword else Name) (length word)

-- at most 19 digits of a value that 63 bits hold are a number
unfoldable pub number_piece : List ℕ → Piece
number_piece digits =
    if nat_lt 19 (length digits) || nat_lt 9223372036854775807 (digits_value 10 digits) then NoToken
    else Lexeme Number (length digits)

-- the longest symbol that the text begins with
unfoldable pub symbol_piece : List ℕ → Piece
symbol_piece [] = NoToken
symbol_piece (b ∷ bs) =
    if list_any (starts_with nat_eq (b ∷ bs)) long_symbols then Lexeme Symbol 2
    else (if list_any (λ symbol. symbol == b) short_symbols then Lexeme Symbol 1
    else NoToken)

-- at most 32 bytes between quotation marks are a text literal
unfoldable pub quoted_piece : List ℕ → List ℕ → Piece
quoted_piece inside behind =
    if nat_lt 32 (length inside) then NoToken
    else (if starts_with nat_eq behind (quotation_mark ∷ []) then Lexeme Quoted (length inside + 2)
    else NoToken)

-- What a text begins with: a letter begins a word and a digit a number, each as long as it goes on; a
-- separator stands alone; a comment goes up to the end of its line; a quotation mark begins a text literal.
unfoldable pub first_piece : List ℕ → Piece
first_piece [] = NoToken
first_piece (b ∷ bs) =
    if is_letter b then word_piece (take_while is_word_byte (b ∷ bs))
    else (if is_digit b then number_piece (take_while is_digit (b ∷ bs))
    else (if is_separator b then Gap 1
    else (if starts_with nat_eq (b ∷ bs) comment_mark then Gap (prefix_len (λ c. not (is_newline c)) (b ∷ bs))
    else (if b == quotation_mark then quoted_piece (take_while is_text_byte bs) (drop (prefix_len is_text_byte bs) bs)
    else symbol_piece (b ∷ bs)))))

-- how many bytes a piece takes; where no token begins it is the one byte there
abbrev pub size : Piece → ℕ
size (Gap n) = n
size (Lexeme kind n) = n
size NoToken = 1

-- a token has at most 34 bytes
abbrev pub IsShort : Piece → Type 0
IsShort (Gap n) = Unit {0}
IsShort (Lexeme kind n) = n ≤ 34
IsShort NoToken = Unit {0}

-- a piece, and the place of its first byte
pub record Placed : Type 0 where
  pub from : ℕ
  pub piece : Piece

-- The pieces of a text whose first byte stands at a place, and whose first bytes, as many as `covered`,
-- are the rest of a piece that began before it. Each byte that no piece covers begins the next one.
unfoldable pub pieces : ℕ → ℕ → List ℕ → List Placed
pieces covered place [] = []
pieces zero place (b ∷ bs) =
    record { from = place; piece = first_piece (b ∷ bs) }
    ∷ pieces (size (first_piece (b ∷ bs)) - 1) (place + 1) bs
pieces (suc covered) place (b ∷ bs) = pieces covered (place + 1) bs
