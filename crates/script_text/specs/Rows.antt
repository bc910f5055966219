-- How the worked rows write a token. This project's.
use Rattle.std.specs.Prelude.{ℕ, ◌+◌, List, length, map, Option, option_map, Result, Ok, Err}
use Rattle.script_text.specs.declared.token.TokenKind.{TokenKind}
use Rattle.script_text.specs.declared.token.Token.{Token}
use Rattle.script_text.specs.declared.syntax.Syntax.{Syntax}
use Rattle.script_text.specs.declared.sections.Split.{Split}
use Rattle.script_text.specs.Tokens.{tokens_of}
use Rattle.script_text.specs.Sections.{split_of}

-- the token with these bytes on a line, from a place on
abbrev pub row : TokenKind → List ℕ → ℕ → ℕ → Token
row kind text line from = record { kind = kind; text = text; line = line; from = from; to = from + length text }

-- how many tokens each part of a text has: the setup, the items of each client, the schedule; and the fault's line
abbrev pub sizes_of : Split → (Option ℕ × List (List ℕ) × ℕ × Option ℕ)
sizes_of split =
    (option_map length split.sections.setup, map (map length) split.sections.clients, length split.sections.schedule, option_map (λ fault. fault.line) split.fault)

abbrev pub sizes_by : Result (List Token) Syntax → Result (Option ℕ × List (List ℕ) × ℕ × Option ℕ) Syntax
sizes_by (Ok tokens) = Ok (sizes_of (split_of tokens))
sizes_by (Err fault) = Err fault

abbrev pub sizes : List ℕ → Result (Option ℕ × List (List ℕ) × ℕ × Option ℕ) Syntax
sizes text = sizes_by (tokens_of text)
