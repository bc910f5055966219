-- Which reports there are, the text of each, and the line on which bytes stop to be such a text. This project's.
use Rattle.std.specs.Prelude.{◌≡◌, ◌≢◌, ℕ, ◌<◌, ◌≤◌, ◌^◌, ◌+◌, ◌-◌, min, List, [], ◌++◌, length, map, count_by, ⊤}
use Rattle.std.specs.List.{AllByRecursion, flat_map}
use Rattle.thor_value.specs.declared.values.Fault.{Fault as FaultKind}
use Rattle.thor_value.specs.declared.values.Answer.TheVariants.{Ints, Fault}
use Rattle.serial_model.specs.declared.entries.Did.{Did}
use Rattle.serial_model.specs.declared.entries.What.TheVariants.{Tx}
use Rattle.serial_model.specs.declared.outcomes.Ended.{Ended}
use Rattle.script_text.specs.Bytes.{is_newline}
use Rattle.script_text.specs.Tokens.{line_at}
use Rattle.script_text.specs.declared.syntax.SyntaxError.{SyntaxError}
use Rattle.script_text.specs.declared.syntax.SyntaxError.TheVariants as errors
use Rattle.report_text.specs.Report.{report_text}
use Rattle.report_text.specs.Shown.{shown_tries, shown_item}
use Rattle.report_parse.specs.declared.report.Report.{Report}
use Rattle.report_parse.specs.declared.report.Backup.{Backup}
use Rattle.report_parse.specs.declared.report.Line.{Line}
use Rattle.report_parse.specs.declared.report.Look.{Look}
use Rattle.report_parse.specs.declared.report.Looked.{Looked}
use Rattle.report_parse.specs.declared.report.Looked.TheVariants.{Answered, Writes}
use Rattle.report_parse.specs.Behind.{look_line, backup_line}
use Rattle.report_parse.specs.Widths.{IsTs, IsOref, IsWho, IsOutcome, IsAnswer}

-- an entry of a history of which a line tells the same: one with no statements for its item of the script, of
-- which lines tell nothing
abbrev pub entry_of : Line → Did
entry_of l = record { ts = l.ts; who = l.who; what = Tx []; number = l.number; fresh = l.fresh; answer = l.answer }

-- what the line of an entry tells
abbrev pub line_of : Did → Line
line_of d = record { ts = d.ts; who = d.who; number = d.number; fresh = d.fresh; answer = d.answer }

-- the text of the lines behind those of the history
abbrev pub behind_text : Report → List ℕ
behind_text r = flat_map look_line r.looks ++ flat_map backup_line r.backups

-- the text of a report: as it is printed, and what stands behind that
abbrev pub text_of : Report → List ℕ
text_of r = report_text r.ended (map entry_of r.lines) ++ behind_text r

-- what the report of these outcomes and this history tells
abbrev pub report_of : List Ended → List Did → Report
report_of ends history = record { ended = map shown_item ends; lines = map line_of history; looks = []; backups = [] }

-- an item's outcome as a report tells it: with no tries where it is unknown
pub record IsItem (e : Ended) : Type 0 where
  pub who : IsWho e.who
  pub tries : e.tries < 2 ^ 32
  pub outcome : IsOutcome e.outcome
  pub shown : shown_tries e.tries e.outcome ≡ e.tries

-- A line as a history has it: an upgrade, told by its number, has made no object and printed nothing, and what ended
-- in a fault has made no object.
pub record IsLine (l : Line) : Type 0 where
  pub upgrade : l.number ≢ 0 → (l.fresh ≡ []) × (l.answer ≡ Ints [])
  pub fault : (fault : FaultKind) → l.answer ≡ Fault fault → l.fresh ≡ []
  pub ts : IsTs l.ts
  pub who : IsWho l.who
  pub number : l.number < 2 ^ 32
  pub fresh : AllByRecursion IsOref l.fresh
  pub answer : IsAnswer l.answer

-- what a look has come to
abbrev pub IsLooked : Looked → Type 0
IsLooked (Answered answer) = IsAnswer answer
IsLooked Writes = ⊤

-- what the line of a look tells
pub record IsLook (l : Look) : Type 0 where
  pub number : l.number < 2 ^ 32
  pub ts : IsTs l.ts
  pub looked : IsLooked l.looked

-- what the line of a backup tells
pub record IsBackup (b : Backup) : Type 0 where
  pub repo : b.repo < 2 ^ 8
  pub place : b.place < 2 ^ 64

-- what a report tells
pub record IsReport (r : Report) : Type 0 where
  pub items : AllByRecursion IsItem r.ended
  pub lines : AllByRecursion IsLine r.lines
  pub count : length r.lines < 2 ^ 64
  pub looks : AllByRecursion IsLook r.looks
  pub backups : AllByRecursion IsBackup r.backups

-- the text of some report begins with the bytes
abbrev pub BeginsReport : List ℕ → Type 0
BeginsReport bytes = (report : Report) × (more : List ℕ) × IsReport report × (text_of report ≡ bytes ++ more)

-- how many lines end in the bytes
abbrev pub ended_lines : List ℕ → ℕ
ended_lines bytes = count_by is_newline bytes

-- the line of the last byte; 1 where there is none
abbrev pub last_line : List ℕ → ℕ
last_line bytes = line_at bytes (length bytes - 1)

-- The bytes are no report's text, and stop to be one on this line: the lines before it are all that a report can
-- begin with. Where a report could go on behind the last byte, it is the line of that byte.
pub record StopsOn (bytes : List ℕ) (line : ℕ) : Type 0 where
  pub no_report : (report : Report) → IsReport report → text_of report ≢ bytes
  pub front : List ℕ
  pub behind : List ℕ
  pub whole : bytes ≡ front ++ behind
  pub begins : BeginsReport front
  pub longest : (other rest : List ℕ) → bytes ≡ other ++ rest → BeginsReport other → ended_lines other ≤ ended_lines front
  pub line_is : line ≡ min (ended_lines front + 1) (last_line bytes)

-- the error has the line on which the bytes stop to be a report; want of memory says nothing
abbrev pub IsStopOf : List ℕ → SyntaxError → Type 0
IsStopOf bytes (errors.Fault fault) = StopsOn bytes fault.line
IsStopOf bytes errors.NoMemory = Unit {0}
