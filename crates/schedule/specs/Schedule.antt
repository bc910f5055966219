-- The events of a schedule, from the first token to the last. This project's.
--
-- What may stand next follows from what was read: a reader holds both, and takes one token after the other.
-- `Written` says the same without a reader.
use Rattle.std.specs.Prelude.{ℕ, List, [], ◌∷◌, ◌++◌, fold, codes, Result, Ok, Err, if◌then◌else◌}
use Rattle.std.specs.Str.{bytes_eq}
use Rattle.script_text.specs.declared.token.Token.{Token}
use Rattle.script_text.specs.declared.token.TokenKind.{TokenKind}
use Rattle.script_text.specs.declared.token.TokenKind.TheVariants as kinds
use Rattle.script_text.specs.declared.syntax.Syntax.{Syntax}
use Rattle.script_text.specs.Sections.{last_line}
use Rattle.schedule.specs.declared.events.Event.{Event}
use Rattle.schedule.specs.declared.reader.Reader.{Reader}
use Rattle.schedule.specs.declared.reader.Reader.TheVariants.{Ready, Named, Dotted, Stopped}
use Rattle.schedule.specs.Kinds.{alone, pair}

-- What a token is for a schedule.
pub data Mark : Type 0 where
  IsName : Mark
  IsPoint : Mark
  IsNumber : Mark
  IsOther : Mark

abbrev pub mark_by : TokenKind → List ℕ → Mark
mark_by kinds.Name text = IsName
mark_by kinds.Number text = IsNumber
mark_by kinds.Keyword text = IsOther
mark_by kinds.Quoted text = IsOther
mark_by kinds.Symbol text = if bytes_eq text (codes ".") then IsPoint else IsOther

unfoldable pub mark_of : Token → Mark
mark_of token = mark_by token.kind token.text

abbrev pub alone_event : ℕ → List ℕ → Event
alone_event line name = record { line = line; kind = alone name }

abbrev pub pair_event : ℕ → List ℕ → List ℕ → Event
pair_event line name number = record { line = line; kind = pair name number }

-- the token can't stand here
abbrev pub stop : Token → Reader
stop token = Stopped (record { line = token.line })

abbrev pub ready_step : Mark → List Event → Token → Reader
ready_step IsName events token = Named events token.line token.text
ready_step IsPoint events token = stop token
ready_step IsNumber events token = stop token
ready_step IsOther events token = stop token

-- a name ends the event of the name before it
abbrev pub named_step : Mark → List Event → ℕ → List ℕ → Token → Reader
named_step IsName events line name token = Named (events ++ alone_event line name ∷ []) token.line token.text
named_step IsPoint events line name token = Dotted events line name
named_step IsNumber events line name token = stop token
named_step IsOther events line name token = stop token

abbrev pub dotted_step : Mark → List Event → ℕ → List ℕ → Token → Reader
dotted_step IsNumber events line name token = Ready (events ++ pair_event line name token.text ∷ [])
dotted_step IsName events line name token = stop token
dotted_step IsPoint events line name token = stop token
dotted_step IsOther events line name token = stop token

-- what was read, with one more token
unfoldable pub step : Reader → Token → Reader
step (Ready events) token = ready_step (mark_of token) events token
step (Named events line name) token = named_step (mark_of token) events line name token
step (Dotted events line name) token = dotted_step (mark_of token) events line name token
step (Stopped fault) token = Stopped fault

-- what was read when the tokens end, on a line
abbrev pub at_end : Reader → ℕ → Result (List Event) Syntax
at_end (Ready events) line = Ok events
at_end (Named events named name) line = Ok (events ++ alone_event named name ∷ [])
at_end (Dotted events named name) line = Err (record { line = line })
at_end (Stopped fault) line = Err fault

unfoldable pub read : List Token → Reader
read tokens = fold step (Ready []) tokens

-- the events of the tokens, or their fault
unfoldable pub events_of : List Token → Result (List Event) Syntax
events_of tokens = at_end (read tokens) (last_line tokens)
