-- Reading a whole report, or the bytes that are left where it stops.
use Rattle.std.specs.Prelude.{ℕ, ◌+◌, ◌-◌, min, List, [], ◌∷◌, length, take, codes, Option, Some, None, Result, Ok, Err}
use Rattle.script_text.specs.declared.syntax.Syntax.{Syntax}
use Rattle.serial_model.specs.declared.outcomes.Ended.{Ended}
use Rattle.report_parse.specs.declared.report.Report.{Report}
use Rattle.report_parse.specs.declared.report.Backup.{Backup}
use Rattle.report_parse.specs.declared.report.Line.{Line}
use Rattle.report_parse.specs.declared.report.Look.{Look}
use Rattle.report_parse.specs.Reading.{strip, many}
use Rattle.report_parse.specs.Items.{item_at}
use Rattle.report_parse.specs.HistoryLines.{line_at, end_at}
use Rattle.report_parse.specs.BehindLines.{look_at, backup_at}
use Rattle.report_parse.specs.Reports.{ended_lines, last_line}

abbrev pub closed : Report → List ℕ → Result Report (List ℕ)
closed report [] = Ok report
closed report (b ∷ bytes) = Err (b ∷ bytes)

-- behind the lines of backups
abbrev pub after_backups : List Ended → List Line → List Look → List Backup × List ℕ → Result Report (List ℕ)
after_backups ended lines looks backups = closed (record { ended = ended; lines = lines; looks = looks; backups = backups.0 }) backups.1

-- behind the lines of looks
abbrev pub after_looks : List Ended → List Line → List Look × List ℕ → Result Report (List ℕ)
after_looks ended lines looks = after_backups ended lines looks.0 (many backup_at (length looks.1) looks.1)

abbrev pub after_end : List Ended → List Line → List ℕ → Option (ℕ × List ℕ) → Result Report (List ℕ)
after_end ended lines rest None = Err rest
after_end ended lines rest (Some x) = after_looks ended lines (many look_at (length x.1) x.1)

-- behind the lines of the history
abbrev pub after_lines : List Ended → List Line × List ℕ → Result Report (List ℕ)
after_lines ended lines = after_end ended lines.0 lines.1 (end_at (length lines.0) lines.1)

abbrev pub after_heading : List Ended → List ℕ → Option (List ℕ) → Result Report (List ℕ)
after_heading ended rest None = Err rest
after_heading ended rest (Some bytes) = after_lines ended (many line_at (length bytes) bytes)

-- behind the lines of the items
abbrev pub after_items : List Ended × List ℕ → Result Report (List ℕ)
after_items items = after_heading items.0 items.1 (strip (codes "history\n") items.1)

unfoldable pub whole_of : List ℕ → Result Report (List ℕ)
whole_of bytes = after_items (many item_at (length bytes) bytes)

-- the line of the place where so many bytes are left, or that of the last byte where there is none
abbrev pub fault_line : List ℕ → List ℕ → ℕ
fault_line bytes rest = min (ended_lines (take (length bytes - length rest) bytes) + 1) (last_line bytes)

-- the report, or that line
abbrev pub report_or_line : List ℕ → Result Report (List ℕ) → Result Report Syntax
report_or_line bytes (Ok report) = Ok report
report_or_line bytes (Err rest) = Err (record { line = fault_line bytes rest })
