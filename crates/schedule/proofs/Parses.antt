-- What follows of an answer from what it is by the definition.
use Rattle.std.proofs.Common.{◌≡◌, List, Result, Ok, Err, subst}
use Rattle.std.specs.Prelude.{IfOk, IfErr}
use Rattle.script_text.specs.declared.token.Token.{Token}
use Rattle.script_text.specs.declared.syntax.Syntax.{Syntax}
use Rattle.script_text.specs.declared.syntax.SyntaxError.{SyntaxError}
use Rattle.script_text.specs.declared.syntax.SyntaxError.TheVariants.{Fault, NoMemory}
use Rattle.script_text.specs.Reading.{Gives}
use Rattle.schedule.specs.declared.events.Event.{Event}
use Rattle.schedule.specs.Schedule.{events_of}
use Rattle.schedule.specs.Written.{AreEventsOf, IsFirstFault, IsFaultIn}
use Rattle.schedule.proofs.Schedules.{events_read, are_events}
use Rattle.schedule.proofs.Faults.{first_fault, only_first_fault}

pub events_are : (tokens : List Token) (r : Result (List Event) SyntaxError) → Gives r (events_of tokens) → IfOk r (AreEventsOf tokens)
events_are tokens (Ok events) is = are_events tokens events is
events_are tokens (Err error) is = tt

-- the answer is what reading gives, so it is what else is known to be
known : (tokens : List Token) (r : Result (List Event) SyntaxError) (read : Result (List Event) Syntax) → Gives r (events_of tokens) → events_of tokens ≡ read → Gives r read
known tokens r read is e = subst (Gives r) e is

pub only_events : (tokens : List Token) (r : Result (List Event) SyntaxError) → Gives r (events_of tokens) → (events : List Event) → AreEventsOf tokens events → Gives r (Ok events)
only_events tokens r is events are = known tokens r (Ok events) is (events_read tokens events are)

pub fault_is : (tokens : List Token) (r : Result (List Event) SyntaxError) → Gives r (events_of tokens) → IfErr r (IsFaultIn tokens)
fault_is tokens (Ok events) is = tt
fault_is tokens (Err (Fault fault)) is = first_fault tokens fault is
fault_is tokens (Err NoMemory) is = tt

pub only_fault : (tokens : List Token) (r : Result (List Event) SyntaxError) → Gives r (events_of tokens) → (fault : Syntax) → IsFirstFault tokens fault → Gives r (Err fault)
only_fault tokens r is fault first = known tokens r (Err fault) is (only_first_fault tokens fault first)
