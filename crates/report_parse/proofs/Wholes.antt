-- The text of a report in its parts, and that it is read as that report.
use Rattle.std.proofs.Common.{◌≡◌, ℕ, ◌<◌, List, [], ◌∷◌, ◌++◌, length, append-nil, append_assoc, length-append, refl, sym, ap, ◌∙◌, arith, map, codes, None}
use Rattle.std.specs.Fmt.{decimal}
use Rattle.std.specs.List.{flat_map}
use Rattle.std.proofs.lemmas.Bool.{eq-eqb}
use Rattle.std.proofs.lemmas.List.{length-map}
use Rattle.std.proofs.lemmas.List.Folds.{flat_map-map}
use Rattle.serial_model.specs.declared.outcomes.Ended.{Ended}
use Rattle.report_text.specs.Lines.{line, spaced_words}
use Rattle.report_text.specs.Words.{Word, who_word, ts_word}
use Rattle.report_text.specs.Report.{report_text, outcome_words, effect_words, item_line, history_line, end_line}
use Rattle.report_parse.specs.declared.report.Report.{Report}
use Rattle.report_parse.specs.declared.report.Backup.{Backup}
use Rattle.report_parse.specs.declared.report.Line.{Line}
use Rattle.report_parse.specs.declared.report.Look.{Look}
use Rattle.report_parse.specs.Behind.{looked_words, look_line, backup_line}
use Rattle.report_parse.specs.BehindLines.{look_at, backup_at}
use Rattle.report_parse.specs.Reading.{many, strip}
use Rattle.report_parse.specs.Numbers.{number_at}
use Rattle.report_parse.specs.Words.{who_at, ts_at}
use Rattle.report_parse.specs.Items.{item_at}
use Rattle.report_parse.specs.HistoryLines.{line_at}
use Rattle.report_parse.specs.Whole.{closed, after_backups, after_looks, after_end, after_lines, after_heading, after_items, whole_of}
use Rattle.report_parse.specs.Reports.{IsItem, IsLine, IsLook, IsBackup, IsReport, entry_of, text_of}
use Rattle.report_parse.proofs.Exact.{Any, many_all, strip_again}
use Rattle.report_parse.proofs.ExactItems.{exact_item}
use Rattle.report_parse.proofs.ExactLines.{line_text, exact_line, exact_end}
use Rattle.report_parse.proofs.ExactBehind.{exact_look, exact_backup}

-- ---- the text of a report in its parts

abbrev pub items_text : List Ended → List ℕ
items_text ended = flat_map item_line ended

abbrev pub lines_text : List Line → List ℕ
lines_text lines = flat_map line_text lines

abbrev pub heading : List ℕ
heading = codes "history\n"

abbrev pub looks_text : List Look → List ℕ
looks_text looks = flat_map look_line looks

abbrev pub backups_text : List Backup → List ℕ
backups_text backups = flat_map backup_line backups

-- the lines behind those of the history, and what stands behind the report
abbrev pub tails : Report → List ℕ → List ℕ
tails r rest = looks_text r.looks ++ (backups_text r.backups ++ rest)

-- the last line, and what stands behind it
abbrev pub last : List Line → List ℕ → List ℕ
last lines rest = end_line (length lines) ++ rest

-- the heading and what stands behind it
abbrev pub headed : List Line → List ℕ → List ℕ
headed lines rest = heading ++ (lines_text lines ++ last lines rest)

entries_text : (lines : List Line) → flat_map history_line (map entry_of lines) ≡ lines_text lines
unfolding line_text
entries_text lines = flat_map-map history_line entry_of lines

printed_is : (r : Report) (rest : List ℕ) → report_text r.ended (map entry_of r.lines) ++ rest ≡ items_text r.ended ++ headed r.lines rest
unfolding report_text
printed_is r rest =
    let items : List ℕ = items_text r.ended in
    let lines : List ℕ = lines_text r.lines in
    let end : List ℕ = end_line (length r.lines) in
    let parts : report_text r.ended (map entry_of r.lines) ≡ items ++ (heading ++ (lines ++ end)) = λ i. items ++ (heading ++ (entries_text r.lines i ++ end_line (length-map r.lines entry_of i))) in
    ap (λ (t : List ℕ). t ++ rest) parts ∙ append_assoc items (heading ++ (lines ++ end)) rest
    ∙ ap (λ (t : List ℕ). items ++ t) (append_assoc heading (lines ++ end) rest ∙ ap (λ (t : List ℕ). heading ++ t) (append_assoc lines end rest))

pub text_is : (r : Report) (rest : List ℕ) → text_of r ++ rest ≡ items_text r.ended ++ headed r.lines (tails r rest)
text_is r rest =
    let printed : List ℕ = report_text r.ended (map entry_of r.lines) in
    append_assoc printed (looks_text r.looks ++ backups_text r.backups) rest
    ∙ ap (λ (t : List ℕ). printed ++ t) (append_assoc (looks_text r.looks) (backups_text r.backups) rest)
    ∙ printed_is r (tails r rest)

-- each line has a byte
some_in : (first : Word) (others : List Word) → 0 < length (line first others)
some_in first others = omega (arith, length-append first (spaced_words others ++ 10 ∷ []), length-append (spaced_words others) (10 ∷ []))

pub item_some : (e : Ended) → IsItem e → 0 < length (item_line e)
unfolding item_line
item_some e h = some_in (who_word e.who) (outcome_words e.tries e.outcome)

pub line_some : (l : Line) → IsLine l → 0 < length (line_text l)
unfolding line_text history_line
line_some l h = some_in (ts_word l.ts) (who_word l.who ∷ effect_words l.number l.fresh l.answer)

pub look_some : (l : Look) → IsLook l → 0 < length (look_line l)
unfolding look_line
look_some l h = some_in (codes "look") (decimal l.number ∷ ts_word l.ts ∷ looked_words l.looked)

pub backup_some : (b : Backup) → IsBackup b → 0 < length (backup_line b)
unfolding backup_line
backup_some b h = some_in (codes "backup") (decimal b.repo ∷ decimal b.place ∷ [])

-- ---- nothing else begins as an item's line, as a line of the history, or as one of those behind it

pub no_item : (rest : List ℕ) → item_at (heading ++ rest) ≡ None
unfolding item_at who_at number_at
no_item rest = refl

pub no_line : (count : ℕ) (rest : List ℕ) → line_at (end_line count ++ rest) ≡ None
unfolding line_at ts_at number_at
no_line count rest = refl

pub no_look : (b : Backup) (rest : List ℕ) → look_at (backup_line b ++ rest) ≡ None
unfolding look_at backup_line strip
no_look b rest = refl

pub no_look_before : (backups : List Backup) (rest : List ℕ) → look_at rest ≡ None → look_at (backups_text backups ++ rest) ≡ None
no_look_before [] rest none = none
no_look_before (b ∷ backups) rest none = ap look_at (append_assoc (backup_line b) (backups_text backups) rest) ∙ no_look b (backups_text backups ++ rest)

pub no_first_look : look_at [] ≡ None
unfolding look_at strip
no_first_look = refl

pub no_first_backup : backup_at [] ≡ None
unfolding backup_at strip
no_first_backup = refl

-- ---- what is spelled is read

pub again : (r : Report) (rest : List ℕ) → IsReport r → look_at rest ≡ None → backup_at rest ≡ None → whole_of (text_of r ++ rest) ≡ closed r rest
unfolding whole_of
again r rest h none no_backup =
    let count : ℕ = length r.lines in
    let behind : List ℕ = tails r rest in
    let inner : List ℕ = lines_text r.lines ++ last r.lines behind in
    let items = many_all Any IsItem item_line item_at exact_item (λ v more g. tt) item_some r.ended (headed r.lines behind) h.items (tt, no_item inner) in
    let lines = many_all Any IsLine line_text line_at exact_line (λ v more g. tt) line_some r.lines (last r.lines behind) h.lines (tt, no_line count behind) in
    let end = (exact_end count).again count behind (h.count, eq-eqb count count refl) tt in
    let looks = many_all Any IsLook look_line look_at exact_look (λ v more g. tt) look_some r.looks (backups_text r.backups ++ rest) h.looks (tt, no_look_before r.backups rest none) in
    let backups = many_all Any IsBackup backup_line backup_at exact_backup (λ v more g. tt) backup_some r.backups rest h.backups (tt, no_backup) in
    ap (λ (b : List ℕ). after_items (many item_at (length b) b)) (text_is r rest)
    ∙ ap after_items items
    ∙ ap (after_heading r.ended (headed r.lines behind)) (strip_again heading inner)
    ∙ ap (after_lines r.ended) lines
    ∙ ap (after_end r.ended r.lines (last r.lines behind)) end
    ∙ ap (after_looks r.ended r.lines) looks
    ∙ ap (after_backups r.ended r.lines r.looks) backups

-- the text alone is read as that report
pub read_whole : (r : Report) → IsReport r → whole_of (text_of r) ≡ closed r []
read_whole r h = ap whole_of (sym (append-nil (text_of r))) ∙ again r [] h no_first_look no_first_backup
