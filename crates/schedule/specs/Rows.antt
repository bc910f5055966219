-- How the worked rows write a schedule and its events. This project's.
use Rattle.std.specs.Prelude.{ℕ, List, Result, Ok, Err}
use Rattle.script_text.specs.declared.token.Token.{Token}
use Rattle.script_text.specs.declared.syntax.Syntax.{Syntax}
use Rattle.script_text.specs.Tokens.{tokens_of}
use Rattle.schedule.specs.declared.events.Event.{Event}
use Rattle.schedule.specs.declared.events.EventKind.{EventKind}
use Rattle.schedule.specs.Schedule.{events_of}

abbrev pub of_tokens : Result (List Token) Syntax → Result (List Event) Syntax
of_tokens (Ok tokens) = events_of tokens
of_tokens (Err fault) = Err fault

-- the events of a text
abbrev pub events_in : List ℕ → Result (List Event) Syntax
events_in text = of_tokens (tokens_of text)

abbrev pub event : ℕ → EventKind → Event
event line kind = record { line = line; kind = kind }
