-- Reading the lines behind those of the history: of looks at the past, and of backups.
use Rattle.std.specs.Prelude.{ℕ, List, [], ◌∷◌, codes}
use Rattle.thor_value.specs.declared.names.Ts.{Ts}
use Rattle.thor_value.specs.declared.values.Answer.TheVariants.{Ints, Fault}
use Rattle.report_parse.specs.declared.report.Backup.{Backup}
use Rattle.report_parse.specs.declared.report.Look.{Look}
use Rattle.report_parse.specs.declared.report.Looked.{Looked}
use Rattle.report_parse.specs.declared.report.Looked.TheVariants.{Answered, Writes}
use Rattle.report_parse.specs.Reading.{Reading, ◌then◌, made, after_text, before, only, first_of}
use Rattle.report_parse.specs.Numbers.{u8_at, u32_at, u64_at}
use Rattle.report_parse.specs.Words.{ts_at, fault_at}
use Rattle.report_parse.specs.Items.{values_at}

abbrev pub lookeds : List (List ℕ × Reading Looked)
lookeds =
    (codes " :", made (λ values. Answered (Ints values)) values_at)
    ∷ (codes " ! ", made (λ fault. Answered (Fault fault)) fault_at)
    ∷ (codes " writes", only Writes)
    ∷ []

unfoldable pub looked_at : Reading Looked
looked_at bytes = first_of lookeds bytes

abbrev pub look_by : ℕ × (Ts × Looked) → Look
look_by x = record { number = x.0; ts = x.1.0; looked = x.1.1 }

-- the line of a look
unfoldable pub look_at : Reading Look
look_at bytes = made look_by (before (codes "\n") (after_text (codes "look ") (u32_at then after_text (codes " ") (ts_at then looked_at)))) bytes

abbrev pub backup_by : ℕ × ℕ → Backup
backup_by x = record { repo = x.0; place = x.1 }

-- the line of a backup
unfoldable pub backup_at : Reading Backup
backup_at bytes = made backup_by (before (codes "\n") (after_text (codes "backup ") (u8_at then after_text (codes " ") u64_at))) bytes
