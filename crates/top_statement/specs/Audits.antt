-- What an audit judges (this project's): the bytes before the first byte 30 are a script, those behind it a report.
use Rattle.audit_check.specs.Agreement.{Agrees, IsFirstDisagreement}
use Rattle.audit_check.specs.declared.audited.Audited.{Audited}
use Rattle.audit_check.specs.declared.disagreement.Disagreement.{Disagreement}
use Rattle.class_defs.specs.declared.declarations.Declarations.{Declarations}
use Rattle.report_parse.specs.Reports.{IsReport, StopsOn, text_of}
use Rattle.report_parse.specs.declared.report.Report.{Report}
use Rattle.script_check.specs.Opened.{opened, schema_of}
use Rattle.script_check.specs.Upgrading.{extended, upgrades_of}
use Rattle.script_parse.specs.declared.script.Script.{Script}
use Rattle.std.specs.List.{position}
use Rattle.std.specs.Prelude.{◌≡◌, ◌==◌, ◌+◌, ℕ, List, Option, None, Some, drop, option_map, take}
use Rattle.top_statement.specs.Opening.{first_schemas}

-- where the byte is that divides a script and a report
abbrev pub divider : List ℕ → Option ℕ
divider bytes = position (λ byte. byte == 30) bytes

abbrev pub before_place : List ℕ → Option ℕ → List ℕ
before_place bytes None = bytes
before_place bytes (Some place) = take place bytes

-- what stands before it; all bytes where there is none
abbrev pub script_part : List ℕ → List ℕ
script_part bytes = before_place bytes (divider bytes)

-- what stands behind it, where there is one
abbrev pub report_part : List ℕ → Option (List ℕ)
report_part bytes = option_map (λ place. drop (place + 1) bytes) (divider bytes)

-- by what a report is judged: the items of the script, the store that its setup opens, and the schemas of that store and behind the
-- script's upgrades
abbrev pub audited_of : Declarations → Script → Audited
audited_of setup script = record {
  opened = opened (schema_of setup);
  schemas = extended (first_schemas setup) (upgrades_of script.clients);
  clients = script.clients;
}

-- the bytes are the text of this report
abbrev pub IsToldBy : Option (List ℕ) → Report → Type 0
IsToldBy None report = ⊥
IsToldBy (Some bytes) report = IsReport report × (text_of report ≡ bytes)

-- they are the text of a report that is true of the script
abbrev pub IsTrueReport : Audited → Option (List ℕ) → Type 0
IsTrueReport a part = (report : Report) × (IsToldBy part report × Agrees a report)

-- they are the text of a report that isn't, and this is its first line that isn't
abbrev pub DisagreesAt : Audited → Option (List ℕ) → Disagreement → Type 0
DisagreesAt a part at = (report : Report) × (IsToldBy part report × IsFirstDisagreement a report at)

-- there are none, which is told of line 1; or they are no report's text, and stop to be one on this line
abbrev pub IsNoReport : Option (List ℕ) → ℕ → Type 0
IsNoReport None line = line ≡ 1
IsNoReport (Some bytes) line = StopsOn bytes line
