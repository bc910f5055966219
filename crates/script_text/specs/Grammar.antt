-- A text as separators, comments and tokens, one behind the other, each as long as it can be. This project's.
--
-- This says what the tokens of a text are without saying how they are found: `scan` gives exactly the tokens
-- of such a reading, and where a text has none, the line on which its longest reading ends.
use Rattle.std.specs.Prelude.{◌≡◌, ◌≤◌, ℕ, ◌+◌, Bool, true, false, not, ◌&&◌, List, [], ◌∷◌, ◌++◌, length, map}
use Rattle.std.specs.List.{list_any, list_all, flat_map}
use Rattle.std.specs.Str.{bytes_eq}
use Rattle.std.specs.Str.Parse.{digits_value}
use Rattle.thor_value.specs.Words.{fits_word}
use Rattle.script_text.specs.declared.token.TokenKind.{TokenKind}
use Rattle.script_text.specs.declared.token.TokenKind.TheVariants.{Name, Number, Keyword, Symbol, Quoted}
use Rattle.script_text.specs.declared.token.Token.{Token}
use Rattle.script_text.specs.declared.syntax.Syntax.{Syntax}
use Rattle.script_text.specs.declared.syntax.SyntaxError.{SyntaxError}
use Rattle.script_text.specs.declared.syntax.SyntaxError.TheVariants.{Fault, NoMemory}
use Rattle.script_text.specs.Bytes.{is_newline, is_separator, is_letter, is_digit, is_word_byte}
use Rattle.script_text.specs.Words.{is_keyword, long_symbols, short_symbols, comment_mark, quotation_mark}
use Rattle.script_text.specs.Tokens.{line_at}

-- a letter, and then letters, digits or `_`
abbrev pub is_word : List ℕ → Bool
is_word [] = false
is_word (b ∷ bs) = is_letter b && list_all is_word_byte bs

-- one digit or more
abbrev pub is_number : List ℕ → Bool
is_number [] = false
is_number (b ∷ bs) = is_digit b && list_all is_digit bs

-- one of the symbols
abbrev pub is_symbol : List ℕ → Bool
is_symbol text = list_any (λ symbol. bytes_eq symbol text) (long_symbols ++ map (λ b. b ∷ []) short_symbols)

-- bytes between quotation marks
abbrev pub quoted : List ℕ → List ℕ
quoted word = quotation_mark ∷ (word ++ quotation_mark ∷ [])

-- a text between quotation marks
pub record IsQuoted (text : List ℕ) : Type 0 where
  pub word : List ℕ
  pub fits : fits_word word ≡ true
  pub is : text ≡ quoted word

-- the bytes are a token of the kind
abbrev pub IsToken : TokenKind → List ℕ → Type 0
IsToken Name text = (is_word text ≡ true) × (length text ≤ 32) × (is_keyword text ≡ false)
IsToken Keyword text = (is_word text ≡ true) × (length text ≤ 32) × (is_keyword text ≡ true)
IsToken Number text = (is_number text ≡ true) × (length text ≤ 19) × (digits_value 10 text ≤ 9223372036854775807)
IsToken Symbol text = is_symbol text ≡ true
IsToken Quoted text = IsQuoted text

-- a text doesn't begin with a byte that passes the test
abbrev pub Stops : (ℕ → Bool) → List ℕ → Type 0
Stops test [] = Unit {0}
Stops test (b ∷ bs) = test b ≡ false

-- the token doesn't go on in the text behind it: no byte follows that would make it a longer one
abbrev pub EndsBefore : TokenKind → List ℕ → List ℕ → Type 0
EndsBefore Name text behind = Stops is_word_byte behind
EndsBefore Keyword text behind = Stops is_word_byte behind
EndsBefore Number text behind = Stops is_digit behind
EndsBefore Symbol text behind = Stops (λ b. is_symbol (text ++ b ∷ [])) behind
EndsBefore Quoted text behind = Unit {0}

-- what a text is made of; of a comment the bytes behind its mark
pub data Part : Type 0 where
  Separator : ℕ → Part
  Comment : List ℕ → Part
  Lexeme : TokenKind → List ℕ → Part

abbrev pub bytes_of : Part → List ℕ
bytes_of (Separator b) = b ∷ []
bytes_of (Comment body) = comment_mark ++ body
bytes_of (Lexeme kind text) = text

-- The part may stand before the text behind it. A comment has all bytes up to the end of its line.
abbrev pub IsPart : Part → List ℕ → Type 0
IsPart (Separator b) behind = is_separator b ≡ true
IsPart (Comment body) behind = (list_all (λ b. not (is_newline b)) body ≡ true) × Stops (λ b. not (is_newline b)) behind
IsPart (Lexeme kind text) behind = IsToken kind text × EndsBefore kind text behind

-- so may each of them, with the others and then a text behind it
abbrev pub AreParts : List Part → List ℕ → Type 0
AreParts [] behind = Unit {0}
AreParts (part ∷ parts) behind = IsPart part (flat_map bytes_of parts ++ behind) × AreParts parts behind

-- the tokens among the parts of a text, the first of which stands at a place
abbrev pub tokens_in : List ℕ → ℕ → List Part → List Token
tokens_in text place [] = []
tokens_in text place (Separator b ∷ parts) = tokens_in text (place + 1) parts
tokens_in text place (Comment body ∷ parts) = tokens_in text (place + length (bytes_of (Comment body))) parts
tokens_in text place (Lexeme kind bytes ∷ parts) =
    record { kind = kind; text = bytes; line = line_at text place; from = place; to = place + length bytes }
    ∷ tokens_in text (place + length bytes) parts

-- these are the tokens of the text
pub record AreTokensOf (text : List ℕ) (tokens : List Token) : Type 0 where
  pub parts : List Part
  pub each : AreParts parts []
  pub whole : flat_map bytes_of parts ≡ text
  pub tokens_are : tokens ≡ tokens_in text 0 parts

-- no part begins a text
abbrev pub BeginsNothing : List ℕ → Type 0
BeginsNothing text = (part : Part) (behind : List ℕ) → bytes_of part ++ behind ≡ text → IsPart part behind → ⊥

-- the text has no tokens: behind some parts of it there are bytes that nothing begins, on that line
pub record StopsAt (text : List ℕ) (fault : Syntax) : Type 0 where
  pub parts : List Part
  pub first : ℕ
  pub others : List ℕ
  pub each : AreParts parts (first ∷ others)
  pub whole : flat_map bytes_of parts ++ first ∷ others ≡ text
  pub nothing : BeginsNothing (first ∷ others)
  pub line : fault.line ≡ line_at text (length (flat_map bytes_of parts))

-- the error is a fault where the text stops; want of memory says nothing
abbrev pub IsStopOf : List ℕ → SyntaxError → Type 0
IsStopOf text (Fault fault) = StopsAt text fault
IsStopOf text NoMemory = Unit {0}
