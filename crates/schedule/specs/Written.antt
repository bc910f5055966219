-- A schedule as it is written, event by event, and which tokens have which events. This project's.
--
-- This says what the events of a schedule are without saying how they are found: `parse_schedule` gives exactly
-- the events of a schedule, and where the tokens are none, the first of them that no schedule goes on with.
use Rattle.std.specs.Prelude.{◌≡◌, ◌⊎◌, List, [], ◌∷◌, ◌++◌, map}
use Rattle.std.specs.List.{AllByRecursion, flat_map}
use Rattle.script_text.specs.declared.token.Token.{Token}
use Rattle.script_text.specs.declared.syntax.Syntax.{Syntax}
use Rattle.script_text.specs.Sections.{last_line}
use Rattle.script_text.specs.declared.syntax.SyntaxError.{SyntaxError}
use Rattle.script_text.specs.declared.syntax.SyntaxError.TheVariants.{Fault, NoMemory}
use Rattle.schedule.specs.declared.events.Event.{Event}
use Rattle.schedule.specs.Schedule.{IsName, IsPoint, IsNumber, mark_of, alone_event, pair_event}

-- an event is a name, or a name, a point and a number
pub data Written : Type 0 where
  Alone : Token → Written
  Pair : Token → Token → Token → Written

abbrev pub tokens_in : Written → List Token
tokens_in (Alone name) = name ∷ []
tokens_in (Pair name point number) = name ∷ point ∷ number ∷ []

abbrev pub event_in : Written → Event
event_in (Alone name) = alone_event name.line name.text
event_in (Pair name point number) = pair_event name.line name.text number.text

abbrev pub IsWritten : Written → Type 0
IsWritten (Alone name) = mark_of name ≡ IsName
IsWritten (Pair name point number) = (mark_of name ≡ IsName) × (mark_of point ≡ IsPoint) × (mark_of number ≡ IsNumber)

-- these are the events of the tokens
pub record AreEventsOf (tokens : List Token) (events : List Event) : Type 0 where
  pub written : List Written
  pub each : AllByRecursion IsWritten written
  pub whole : flat_map tokens_in written ≡ tokens
  pub events_are : events ≡ map event_in written

-- a schedule begins with the tokens
pub record Begin (tokens : List Token) : Type 0 where
  pub more : List Token
  pub events : List Event
  pub is : AreEventsOf (tokens ++ more) events

-- The tokens are no schedule: one begins with some of them, and none goes on with the next, on that line.
pub record StopAt (tokens : List Token) (fault : Syntax) : Type 0 where
  pub front : List Token
  pub token : Token
  pub behind : List Token
  pub whole : front ++ token ∷ behind ≡ tokens
  pub begin : Begin front
  pub none : (more : List Token) (events : List Event) → AreEventsOf (front ++ token ∷ more) events → ⊥
  pub line : fault.line ≡ token.line

-- The tokens are no schedule, but one begins with them; the fault is at the line of the last one.
pub record EndShort (tokens : List Token) (fault : Syntax) : Type 0 where
  pub begin : Begin tokens
  pub none : (events : List Event) → AreEventsOf tokens events → ⊥
  pub line : fault.line ≡ last_line tokens

-- the tokens are no schedule, and go on to be one up to here
abbrev pub IsFirstFault : List Token → Syntax → Type 0
IsFirstFault tokens fault = StopAt tokens fault ⊎ EndShort tokens fault

-- the error is that fault; want of memory says nothing
abbrev pub IsFaultIn : List Token → SyntaxError → Type 0
IsFaultIn tokens (Fault fault) = IsFirstFault tokens fault
IsFaultIn tokens NoMemory = Unit {0}
