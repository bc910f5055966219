-- Which token is which word. This project's.
use Rattle.std.specs.Prelude.{◌≡◌, ℕ, pos, Bool, false, true, ◌&&◌, List, [], ◌∷◌, Some, option_map}
use Rattle.std.specs.Str.{bytes_eq}
use Rattle.thor_value.specs.Words.{fits_word}
use Rattle.script_text.specs.declared.token.Token.{Token}
use Rattle.script_text.specs.declared.token.TokenKind.{TokenKind}
use Rattle.script_text.specs.declared.token.TokenKind.TheVariants as kinds
use Rattle.script_text.specs.Marks.{number_in, text_in}
use Rattle.class_defs.specs.Words.{Word, Fixed, FixedAt, Named, Numbered, Quoted}

abbrev pub is_name_kind : TokenKind → Bool
is_name_kind kinds.Name = true
is_name_kind kinds.Number = false
is_name_kind kinds.Keyword = false
is_name_kind kinds.Symbol = false
is_name_kind kinds.Quoted = false

-- whether a token of the kind, with the text, is a name; one has at most 32 bytes
abbrev pub is_name_by : TokenKind → List ℕ → Bool
is_name_by kind text = is_name_kind kind && fits_word text

-- whether a token is a name
abbrev pub is_name : Token → Bool
is_name token = is_name_by token.kind token.text

-- keywords and symbols
abbrev pub is_fixed_kind : TokenKind → Bool
is_fixed_kind kinds.Name = false
is_fixed_kind kinds.Number = false
is_fixed_kind kinds.Keyword = true
is_fixed_kind kinds.Symbol = true
is_fixed_kind kinds.Quoted = false

abbrev pub is_quoted_kind : TokenKind → Bool
is_quoted_kind kinds.Name = false
is_quoted_kind kinds.Number = false
is_quoted_kind kinds.Keyword = false
is_quoted_kind kinds.Symbol = false
is_quoted_kind kinds.Quoted = true

-- whether a token is a text literal
abbrev pub is_quoted : Token → Bool
is_quoted token = is_quoted_kind token.kind

-- whether a token is this keyword or symbol
abbrev pub is : List ℕ → Token → Bool
is text token = is_fixed_kind token.kind && bytes_eq token.text text

-- the token is the word
abbrev pub IsWord : Token → Word → Type 0
IsWord token (Fixed text) = (is_fixed_kind token.kind ≡ true) × (token.text ≡ text)
IsWord token (FixedAt text line) = (is_fixed_kind token.kind ≡ true) × (token.text ≡ text) × (token.line ≡ line)
IsWord token (Named text line) = (is_name token ≡ true) × (token.text ≡ text) × (token.line ≡ line)
IsWord token (Numbered value line) = (option_map pos (number_in token) ≡ Some value) × (token.line ≡ line)
IsWord token (Quoted text line) = (text_in token ≡ Some text) × (token.line ≡ line)

-- the tokens are the words, one for one
abbrev pub AreWords : List Token → List Word → Type 0
AreWords [] [] = Unit {0}
AreWords (token ∷ tokens) (word ∷ words) = IsWord token word × AreWords tokens words
AreWords [] (word ∷ words) = ⊥
AreWords (token ∷ tokens) [] = ⊥
