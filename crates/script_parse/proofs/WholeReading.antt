-- Where a whole script is refused.
use Rattle.std.proofs.Common.{◌≡◌, List, Option, Some, Err, inl, inr, refl, subst, sym}
use Rattle.class_defs.specs.declared.declarations.Declarations.{Declarations}
use Rattle.schedule.specs.Written.{AreEventsOf}
use Rattle.script_text.specs.declared.sections.Split.{Split}
use Rattle.script_text.specs.declared.syntax.Syntax.{Syntax}
use Rattle.script_parse.specs.Reads.{Each, Reads}
use Rattle.script_parse.specs.Script.{AreItems, IsRefusedEnd, IsRefusedSchedule, IsRefusedSplit, IsSetupPart}
use Rattle.script_parse.specs.declared.error.ReadError.{ReadError}
use Rattle.script_parse.specs.declared.error.ReadError.TheVariants as errors
use Rattle.script_parse.specs.declared.refusal.Refusal.TheVariants as refusal
use Rattle.script_parse.specs.declared.script.Script.{Script}
use Rattle.serial_model.specs.declared.entries.What.{What}

-- the fault of the splitting is told at last
pub refused_end : (fault : Option Syntax) (f : Syntax) → fault ≡ Some f → IsRefusedEnd fault (refusal.Syntax f.line)
refused_end fault f is = let P : Option Syntax → Type 0 = λ o. IsRefusedEnd o (refusal.Syntax f.line) in subst P (sym is) refl

-- the schedule is refused, behind parts that were read
pub events_refused : (split : Split) (setup : Option Declarations) (clients : List (List What)) (error : ReadError) (Any : Script → Type 0) → IsSetupPart split.sections.setup setup → Each AreItems split.sections.clients clients
    → Reads (AreEventsOf split.sections.schedule) (IsRefusedSchedule split.sections.schedule) (Err error) → Reads Any (IsRefusedSplit split) (Err error)
events_refused split setup clients (errors.Refused r) Any s c h = inr (setup, (s, inr (clients, (c, inl h))))
events_refused split setup clients errors.NoMemory Any s c h = tt
