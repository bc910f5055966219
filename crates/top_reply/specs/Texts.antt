-- The texts of the program that are no report (this project's).
use Rattle.audit_check.specs.declared.disagreement.Disagreement.{Disagreement}
use Rattle.audit_check.specs.declared.disagreement.Disagreement.TheVariants as line
use Rattle.std.specs.Fmt.{decimal}
use Rattle.std.specs.Prelude.{ℕ, List, [], ◌∷◌, codes, ◌++◌}

abbrev pub limit_text : ℕ → List ℕ
limit_text limit = codes "limit " ++ (decimal limit ++ 10 ∷ [])

-- a repository's disk failed
abbrev pub disk_text : ℕ → List ℕ
disk_text repo = codes "disk " ++ (decimal repo ++ 10 ∷ [])

-- a repository's disk has, at a place, bytes that are no store's
abbrev pub damaged_text : ℕ → ℕ → ℕ → List ℕ
damaged_text repo disk place = codes "damaged " ++ (decimal repo ++ 32 ∷ (decimal disk ++ 32 ∷ (decimal place ++ 10 ∷ [])))

-- a report isn't true of its script: its first line that isn't
abbrev pub disagreement_text : Disagreement → List ℕ
disagreement_text (line.Entry index) = codes "entry " ++ (decimal index ++ 10 ∷ [])
disagreement_text (line.Item index) = codes "item " ++ (decimal index ++ 10 ∷ [])

-- what should be a report is none
abbrev pub no_report_text : ℕ → List ℕ
no_report_text line = codes "report " ++ (decimal line ++ 10 ∷ [])
