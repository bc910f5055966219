-- What the code that reads the history from its lines says on its way.
use Rattle.std.specs.Prelude.{◌≡◌, ◌+◌, ℕ, Bool, true, false, List, [], ◌∷◌, ◌++◌, None, Some, Result, Ok, Err}
use Rattle.serial_model.specs.History.{IsLegal}
use Rattle.serial_model.specs.Replays.{IsFirstNotLegal}
use Rattle.serial_model.specs.declared.entries.Did.{Did}
use Rattle.serial_model.specs.declared.entries.What.{What}
use Rattle.report_parse.specs.declared.report.Line.{Line}
use Rattle.top_history_check.specs.Lines.{item_of}
use Rattle.audit_check.specs.Agreement.{history_of}
use Rattle.audit_check.specs.declared.audited.Audited.{Audited}
use Rattle.audit_check.specs.declared.disagreement.AuditFault.{AuditFault}
use Rattle.audit_check.specs.declared.disagreement.AuditFault.TheVariants.{Disagrees, NoMemory}
use Rattle.audit_check.specs.declared.disagreement.Disagreement.{Disagreement}
use Rattle.audit_check.specs.declared.disagreement.Disagreement.TheVariants as line

-- the first of the lines names no item
abbrev pub NamesNone : List (List What) → List Line → Type 0
NamesNone clients [] = ⊥
NamesNone clients (l ∷ ls) = item_of clients l.who ≡ None

-- the history of the lines before the first that names no item
pub record Stops (clients : List (List What)) (lines : List Line) (history : List Did) : Type 0 where
  pub front : List Line
  pub behind : List Line
  pub whole : lines ≡ front ++ behind
  pub told : history_of clients front ≡ Some history
  pub none : NamesNone clients behind

-- the history of all lines, or of those before the first that names no item
abbrev pub IsTold : List (List What) → List Line → List Did → Bool → Type 0
IsTold clients lines history true = history_of clients lines ≡ Some history
IsTold clients lines history false = Stops clients lines history

-- a fault that tells this line, counted from 1, by its place; want of memory says nothing
abbrev pub FaultIs : Disagreement → AuditFault → Type 0
FaultIs at (Disagrees d) = d ≡ at
FaultIs at NoMemory = Unit {0}

-- the history is legal, or the entry that is told is the first that isn't
abbrev pub IsLegalOr : Audited → List Did → Result (Unit {0}) AuditFault → Type 0
IsLegalOr a history (Ok done) = IsLegal a.schemas history a.opened
IsLegalOr a history (Err (Disagrees (line.Entry index))) = (place : ℕ) × (index ≡ place + 1) × IsFirstNotLegal a.schemas history a.opened place
IsLegalOr a history (Err (Disagrees (line.Item index))) = ⊥
IsLegalOr a history (Err NoMemory) = Unit {0}
