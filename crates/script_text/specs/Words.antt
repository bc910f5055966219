-- The words and signs of the language. This project's.
use Rattle.std.specs.Prelude.{ℕ, Bool, List, [], ◌∷◌, codes}
use Rattle.std.specs.List.{list_any}
use Rattle.std.specs.Str.{bytes_eq}

-- the words that are no names
abbrev pub keywords : List (List ℕ)
keywords =
    codes "setup" ∷ codes "free" ∷ codes "part" ∷ codes "class" ∷ codes "int"
    ∷ codes "method" ∷ codes "var" ∷ codes "if" ∷ codes "else" ∷ codes "while"
    ∷ codes "return" ∷ codes "print" ∷ codes "new" ∷ codes "at" ∷ codes "null"
    ∷ codes "this" ∷ codes "root" ∷ codes "client" ∷ codes "tx" ∷ codes "upgrade"
    ∷ codes "old" ∷ codes "schedule" ∷ []

abbrev pub is_keyword : List ℕ → Bool
is_keyword word = list_any (λ keyword. bytes_eq keyword word) keywords

-- the signs of two bytes, which are tried before those of one: the longest is taken
abbrev pub long_symbols : List (List ℕ)
long_symbols = codes "==" ∷ codes "!=" ∷ []

-- the signs of one byte
abbrev pub short_symbols : List ℕ
short_symbols = codes "{}();,.=<+-*"

-- what a text literal stands between
abbrev pub quotation_mark : ℕ
quotation_mark = 34

-- how a comment begins
abbrev pub comment_mark : List ℕ
comment_mark = codes "//"
