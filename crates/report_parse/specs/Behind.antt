-- The texts of the lines that may stand behind those of the history: what looks at the past were answered, and up to which
-- place of its repository's history each backup is confirmed. This project's.
use Rattle.std.specs.Prelude.{ℕ, List, [], ◌∷◌, codes}
use Rattle.std.specs.Fmt.{decimal}
use Rattle.report_text.specs.Lines.{line}
use Rattle.report_text.specs.Words.{Word, ts_word}
use Rattle.report_text.specs.Report.{answer_words}
use Rattle.report_parse.specs.declared.report.Backup.{Backup}
use Rattle.report_parse.specs.declared.report.Look.{Look}
use Rattle.report_parse.specs.declared.report.Looked.{Looked}
use Rattle.report_parse.specs.declared.report.Looked.TheVariants.{Answered, Writes}

-- what a look has come to
abbrev pub looked_words : Looked → List Word
looked_words (Answered answer) = answer_words [] answer
looked_words Writes = codes "writes" ∷ []

-- the line of a look
unfoldable pub look_line : Look → List ℕ
look_line l = line (codes "look") (decimal l.number ∷ ts_word l.ts ∷ looked_words l.looked)

-- the line of a backup
unfoldable pub backup_line : Backup → List ℕ
backup_line b = line (codes "backup") (decimal b.repo ∷ decimal b.place ∷ [])
