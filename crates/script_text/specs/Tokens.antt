-- Which tokens a text has, or where it has none. This project's.
use Rattle.std.specs.Prelude.{ℕ, ◌+◌, List, [], ◌∷◌, take, Result, Ok, Err, slice_range, count_by}
use Rattle.script_text.specs.declared.token.TokenKind.{TokenKind}
use Rattle.script_text.specs.declared.token.Token.{Token}
use Rattle.script_text.specs.declared.syntax.Syntax.{Syntax}
use Rattle.script_text.specs.declared.piece.Piece.{Piece}
use Rattle.script_text.specs.declared.piece.Piece.TheVariants.{Gap, Lexeme, NoToken}
use Rattle.script_text.specs.Bytes.{is_newline}
use Rattle.script_text.specs.Pieces.{Placed, pieces}

-- the line of a place: one more than the lines that end before it
abbrev pub line_at : List ℕ → ℕ → ℕ
line_at text place = 1 + count_by is_newline (take place text)

-- the token of this kind that has the bytes from one place up to another
abbrev pub token_at : List ℕ → TokenKind → ℕ → ℕ → Token
token_at text kind from to =
    record { kind = kind; text = slice_range text from to; line = line_at text from; from = from; to = to }

-- a token before those that were read behind it
abbrev pub before : Token → Result (List Token) Syntax → Result (List Token) Syntax
before token (Ok tokens) = Ok (token ∷ tokens)
before token (Err fault) = Err fault

-- a piece before the tokens of those behind it
abbrev pub with_piece : List ℕ → ℕ → Piece → Result (List Token) Syntax → Result (List Token) Syntax
with_piece text from (Gap n) behind = behind
with_piece text from (Lexeme kind n) behind = before (token_at text kind from (from + n)) behind
with_piece text from NoToken behind = Err (record { line = line_at text from })

-- the tokens among the pieces, in order; where a piece is none, a fault at the line of the first such piece
unfoldable pub tokens_among : List ℕ → List Placed → Result (List Token) Syntax
tokens_among text [] = Ok []
tokens_among text (p ∷ ps) = with_piece text p.from p.piece (tokens_among text ps)

-- The tokens of a text, or its fault.
unfoldable pub tokens_of : List ℕ → Result (List Token) Syntax
tokens_of text = tokens_among text (pieces 0 0 text)
