-- The tokens behind a place of a text. This project's.
use Rattle.std.specs.Prelude.{◌≡◌, ◌+◌, ◌≤◌, ℕ, List, ◌++◌, drop, length, Result, Ok, Err}
use Rattle.script_text.specs.declared.token.Token.{Token}
use Rattle.script_text.specs.declared.syntax.Syntax.{Syntax}
use Rattle.script_text.specs.declared.place.Place.{Place}
use Rattle.script_text.specs.declared.piece.Piece.{Piece}
use Rattle.script_text.specs.Pieces.{IsShort, size, pieces}
use Rattle.script_text.specs.Tokens.{line_at, with_piece, tokens_among}

-- the tokens from a place on, where a piece begins
unfoldable pub tokens_from : List ℕ → ℕ → Result (List Token) Syntax
tokens_from text place = tokens_among text (pieces 0 place (drop place text))

-- tokens, and behind them those that were read
abbrev pub after : List Token → Result (List Token) Syntax → Result (List Token) Syntax
after tokens (Ok more) = Ok (tokens ++ more)
after tokens (Err fault) = Err fault

-- a place within the text, or at its end, with its line
pub record IsPlaceIn (text : List ℕ) (place : Place) : Type 0 where
  pub within : place.from ≤ length text
  pub line : place.line ≡ line_at text place.from

-- The piece that begins at a place: it has a byte, lies within the text and is no longer than a token can be, and the tokens from there on are
-- those behind it, with its own before them where it is one.
pub record IsPieceAt (text : List ℕ) (from : ℕ) (piece : Piece) : Type 0 where
  pub some : 1 ≤ size piece
  pub within : from + size piece ≤ length text
  pub short : IsShort piece
  pub tokens : tokens_from text from ≡ with_piece text from piece (tokens_from text (from + size piece))
