-- What a token is for the parts of a script, and the number or text that it writes. This project's.
use Rattle.std.specs.Prelude.{ℕ, ◌-◌, List, [], ◌∷◌, length, take, codes, Option, None, if◌then◌else◌}
use Rattle.std.specs.Str.{bytes_eq}
use Rattle.thor_value.specs.Words.{word_from}
use Rattle.script_text.specs.declared.token.TokenKind.{TokenKind}
use Rattle.script_text.specs.declared.token.TokenKind.TheVariants.{Name, Number, Keyword, Symbol, Quoted}
use Rattle.script_text.specs.declared.token.Token.{Token}
use Rattle.script_text.specs.declared.mark.Mark.{Mark}
use Rattle.script_text.specs.declared.mark.Mark.TheVariants.{Setup, Client, Tx, Upgrade, Schedule, Open, Close, End, Other}
use Rattle.script_text.specs.Numbers.{digits_value}

abbrev pub keyword_mark : List ℕ → Mark
keyword_mark text =
    if bytes_eq text (codes "setup") then Setup
    else (if bytes_eq text (codes "client") then Client
    else (if bytes_eq text (codes "tx") then Tx
    else (if bytes_eq text (codes "upgrade") then Upgrade
    else (if bytes_eq text (codes "schedule") then Schedule
    else Other))))

abbrev pub symbol_mark : List ℕ → Mark
symbol_mark text =
    if bytes_eq text (codes "{") then Open
    else (if bytes_eq text (codes "}") then Close
    else (if bytes_eq text (codes ";") then End
    else Other))

abbrev pub mark_by : TokenKind → List ℕ → Mark
mark_by Keyword text = keyword_mark text
mark_by Symbol text = symbol_mark text
mark_by Name text = Other
mark_by Number text = Other
mark_by Quoted text = Other

-- what the token is
unfoldable pub mark_of : Token → Mark
mark_of token = mark_by token.kind token.text

-- the greatest number of a token
abbrev pub max_number : ℕ
max_number = 9223372036854775807

-- the number that a text of the kind is; names, keywords, symbols and text literals are none
abbrev pub number_by : TokenKind → List ℕ → Option ℕ
number_by Number text = digits_value max_number text
number_by Name text = None
number_by Keyword text = None
number_by Symbol text = None
number_by Quoted text = None

-- the number that the token is
abbrev pub number_in : Token → Option ℕ
number_in token = number_by token.kind token.text

-- bytes without the first and the last of them
abbrev pub inside : List ℕ → List ℕ
inside [] = []
inside (b ∷ bs) = take (length bs - 1) bs

-- the text that a text literal writes; other tokens write none
abbrev pub text_by : TokenKind → List ℕ → Option (List ℕ)
text_by Quoted text = word_from (inside text)
text_by Name text = None
text_by Number text = None
text_by Keyword text = None
text_by Symbol text = None

-- the text that the token writes
abbrev pub text_in : Token → Option (List ℕ)
text_in token = text_by token.kind token.text
