-- What is read of bytes is the report that they are the text of, or they stop to be one where reading stops.
use Rattle.std.proofs.Common.{◌≡◌, ◌≢◌, ℕ, ◌+◌, ◌-◌, ◌<◌, ◌≤◌, ◌^◌, min, List, [], ◌∷◌, ◌++◌, length, take, append-nil, append_assoc, length-append, refl, sym, ap, subst, ◌∙◌, arith, Option, Some, None, Result, Ok, Err, ◌⊎◌, inl, inr}
use Rattle.std.specs.Prelude.{IfOk, IfErr}
use Rattle.std.specs.List.{flat_map, AllByRecursion}
use Rattle.std.proofs.lemmas.Bool.{eqb-true, eq-eqb}
use Rattle.std.proofs.Math.Seq.{take-append_seam}
use Rattle.std.proofs.lemmas.Option.{same_Some}
use Rattle.script_text.specs.Reading.{Gives}
use Rattle.script_text.specs.declared.syntax.Syntax.{Syntax}
use Rattle.script_text.specs.declared.syntax.SyntaxError.{SyntaxError}
use Rattle.script_text.specs.declared.syntax.SyntaxError.TheVariants as errors
use Rattle.serial_model.specs.declared.outcomes.Ended.{Ended}
use Rattle.report_text.specs.Report.{item_line, end_line}
use Rattle.report_parse.specs.declared.report.Report.{Report}
use Rattle.report_parse.specs.declared.report.Backup.{Backup}
use Rattle.report_parse.specs.declared.report.Line.{Line}
use Rattle.report_parse.specs.declared.report.Look.{Look}
use Rattle.report_parse.specs.Behind.{look_line, backup_line}
use Rattle.report_parse.specs.BehindLines.{look_at, backup_at}
use Rattle.report_parse.specs.Reading.{strip, many}
use Rattle.report_parse.specs.Numbers.{number_at}
use Rattle.report_parse.specs.Words.{who_at, ts_at}
use Rattle.report_parse.specs.Items.{item_at}
use Rattle.report_parse.specs.HistoryLines.{line_at, end_at}
use Rattle.report_parse.specs.Whole.{closed, after_looks, after_end, after_lines, after_heading, after_items, whole_of, fault_line, report_or_line}
use Rattle.report_parse.specs.Reports.{IsItem, IsLine, IsLook, IsBackup, IsReport, BeginsReport, StopsOn, IsStopOf, ended_lines, last_line, text_of}
use Rattle.report_parse.proofs.Exact.{Any, apart, not_none, first_parts, many_found, many_none, long_enough, strip_found, strip_again}
use Rattle.report_parse.proofs.ExactItems.{exact_item}
use Rattle.report_parse.proofs.ExactLines.{line_text, exact_line, IsCount, exact_end}
use Rattle.report_parse.proofs.ExactBehind.{exact_look, exact_backup}
use Rattle.report_parse.proofs.Wholes.{items_text, lines_text, looks_text, backups_text, tails, heading, last, headed, text_is, item_some, line_some, look_some, backup_some, no_item, no_line, no_look, no_look_before, no_first_look, no_first_backup, read_whole}
use Rattle.report_parse.proofs.Ends.{NoEnd, item_line_is, line_text_is, look_line_is, backup_line_is, end_line_is, heading_is, same_line, ended-append, first_line, splits}

-- no report goes on with one more line than the front
abbrev Stuck : List ℕ → List ℕ → Type 0
Stuck front rest = (l b m : List ℕ) → NoEnd l → rest ≡ l ++ (10 ∷ b) → (r : Report) → IsReport r → text_of r ≡ front ++ (l ++ (10 ∷ m)) → ⊥

-- where reading stops
record StuckAt (bytes rest : List ℕ) : Type 0 where
  front : List ℕ
  whole : bytes ≡ front ++ rest
  begins : BeginsReport front
  stuck : Stuck front rest

abbrev Outcome : List ℕ → Result Report (List ℕ) → Type 0
Outcome bytes (Ok r) = IsReport r × (text_of r ≡ bytes)
Outcome bytes (Err rest) = StuckAt bytes rest

-- a report with no line behind those of the history
abbrev report : List Ended → List Line → Report
report ended lines = record { ended = ended; lines = lines; looks = []; backups = [] }

abbrev done : Report → Result Report (List ℕ)
done r = Ok r

abbrev left : List ℕ → Result Report (List ℕ)
left rest = Err rest

-- ---- up to the lines of the history

abbrev front_of : List Ended → List Line → List ℕ
front_of ended lines = items_text ended ++ (heading ++ lines_text lines)

regroup : (ended : List Ended) (lines : List Line) (t : List ℕ) → front_of ended lines ++ t ≡ items_text ended ++ (heading ++ (lines_text lines ++ t))
regroup ended lines t = append_assoc (items_text ended) (heading ++ lines_text lines) t ∙ ap (λ (s : List ℕ). items_text ended ++ s) (append_assoc heading (lines_text lines) t)

-- the same items stand before two headings
same_heading : (ended others : List Ended) (t u : List ℕ) → AllByRecursion IsItem ended → AllByRecursion IsItem others → items_text others ++ (heading ++ t) ≡ items_text ended ++ (heading ++ u) → t ≡ u
same_heading ended others t u h g e = by (first_parts IsItem item_line item_at exact_item others ended (heading ++ t) (heading ++ u) g h (no_item t) e)
  where
    by : (zs : List Ended) × AllByRecursion IsItem zs × (others ≡ ended ++ zs) × (heading ++ u ≡ flat_map item_line zs ++ (heading ++ t)) → t ≡ u
    by ([], a, is, f) = same_Some t u (sym (strip_again heading t) ∙ ap (strip heading) (sym f) ∙ strip_again heading u)
    by ((z ∷ zs), a, is, f) = absurd (not_none Any IsItem item_line item_at exact_item z (heading ++ u) (flat_map item_line zs ++ (heading ++ t)) a.0 tt (f ∙ append_assoc (item_line z) (flat_map item_line zs) (heading ++ t)) (no_item u))

-- ---- behind the lines of backups

-- a look's line doesn't stand behind lines of backups, nor where reading stops
look_follows : (backups : List Backup) (z : Look) (l m t rest b : List ℕ) → IsLook z → NoEnd l → rest ≡ l ++ (10 ∷ b) → look_at (backups_text backups ++ rest) ≡ None → backups_text backups ++ (l ++ (10 ∷ m)) ≡ look_line z ++ t → ⊥
look_follows [] z l m t rest b h free is none e =
    not_none Any IsLook look_line look_at exact_look z rest b h tt (same_line (look_line z) l m t rest b (look_line_is z h) free e is) none
look_follows (k ∷ backups) z l m t rest b h free is none e =
    not_none Any IsLook look_line look_at exact_look z (backups_text (k ∷ backups) ++ (l ++ (10 ∷ m))) t h tt e
    (ap look_at (append_assoc (backup_line k) (backups_text backups) (l ++ (10 ∷ m))) ∙ no_look k (backups_text backups ++ (l ++ (10 ∷ m))))

some_bytes : (l m : List ℕ) → l ++ (10 ∷ m) ≡ [] → ⊥
some_bytes [] m e = cc
some_bytes (b ∷ l) m e = cc

-- the text of one report doesn't go on as that of another, where no line of a look or of a backup stands behind it
text_stuck : (s : Report) (rest : List ℕ) → IsReport s → look_at (backups_text s.backups ++ rest) ≡ None → backup_at rest ≡ None → Stuck (text_of s) rest
text_stuck s rest g none no_backup l b m free is r h e =
    by_lines (first_parts IsLine line_text line_at exact_line r.lines s.lines (last r.lines (tails r [])) (last s.lines (tails s more)) h.lines g.lines (no_line (length r.lines) (tails r [])) inner)
  where
    more : List ℕ
    more = l ++ (10 ∷ m)

    whole : items_text r.ended ++ headed r.lines (tails r []) ≡ items_text s.ended ++ headed s.lines (tails s more)
    whole = sym (text_is r []) ∙ append-nil (text_of r) ∙ e ∙ text_is s more

    inner : lines_text r.lines ++ last r.lines (tails r []) ≡ lines_text s.lines ++ last s.lines (tails s more)
    inner = same_heading s.ended r.ended (lines_text r.lines ++ last r.lines (tails r [])) (lines_text s.lines ++ last s.lines (tails s more)) g.items h.items whole

    by_backups : (zs : List Backup) × AllByRecursion IsBackup zs × (r.backups ≡ s.backups ++ zs) × (more ≡ backups_text zs ++ []) → ⊥
    by_backups ([], a, same, f) = some_bytes l m f
    by_backups ((z ∷ zs), a, same, f) =
        let here : rest ≡ backup_line z ++ b = same_line (backup_line z) l m (backups_text zs ++ []) rest b (backup_line_is z a.0) free (f ∙ append_assoc (backup_line z) (backups_text zs) []) is in
        not_none Any IsBackup backup_line backup_at exact_backup z rest b a.0 tt here no_backup

    by_looks : (zs : List Look) × AllByRecursion IsLook zs × (r.looks ≡ s.looks ++ zs) × (backups_text s.backups ++ more ≡ looks_text zs ++ (backups_text r.backups ++ [])) → ⊥
    by_looks ([], a, same, f) = by_backups (first_parts IsBackup backup_line backup_at exact_backup r.backups s.backups [] more h.backups g.backups no_first_backup (sym f))
    by_looks ((z ∷ zs), a, same, f) =
        look_follows s.backups z l m (looks_text zs ++ (backups_text r.backups ++ [])) rest b a.0 free is none (f ∙ append_assoc (look_line z) (looks_text zs) (backups_text r.backups ++ []))

    by_lines : (zs : List Line) × AllByRecursion IsLine zs × (r.lines ≡ s.lines ++ zs) × (last s.lines (tails s more) ≡ lines_text zs ++ last r.lines (tails r [])) → ⊥
    by_lines ([], a, same, f) =
        let n : ℕ = length s.lines in
        let count : length r.lines ≡ n = ap length same ∙ ap length (append-nil s.lines) in
        let is_count : IsCount n n = (g.count, eq-eqb n n refl) in
        let ends : end_line n ++ tails s more ≡ end_line n ++ tails r [] = f ∙ ap (λ (k : ℕ). end_line k ++ tails r []) count in
        let behind = apart Any (IsCount n) end_line (end_at n) (exact_end n) n n (tails s more) (tails r []) is_count is_count tt tt ends in
        by_looks (first_parts IsLook look_line look_at exact_look r.looks s.looks (backups_text r.backups ++ []) (backups_text s.backups ++ more) h.looks g.looks (no_look_before r.backups [] no_first_look) (sym behind.1))
    by_lines ((z ∷ zs), a, same, f) =
        not_none Any IsLine line_text line_at exact_line z (last s.lines (tails s more)) (lines_text zs ++ last r.lines (tails r [])) a.0 tt (f ∙ append_assoc (line_text z) (lines_text zs) (last r.lines (tails r []))) (no_line (length s.lines) (tails s more))

behind_backups : (bytes : List ℕ) (r : Report) (rest : List ℕ) → IsReport r → look_at (backups_text r.backups ++ rest) ≡ None → backup_at rest ≡ None → bytes ≡ items_text r.ended ++ headed r.lines (tails r rest) → Outcome bytes (closed r rest)
behind_backups bytes r [] h none no_backup is = (h, sym (is ∙ sym (text_is r []) ∙ append-nil (text_of r)))
behind_backups bytes r (b ∷ rest) h none no_backup is = record {
  front = text_of r;
  whole = is ∙ sym (text_is r (b ∷ rest));
  begins = (r, [], h, sym (append-nil (text_of r)));
  stuck = text_stuck r (b ∷ rest) h none no_backup;
}

-- ---- behind the last line

behind_end : (bytes : List ℕ) (r : Report) (rest : List ℕ) → IsReport r → bytes ≡ items_text r.ended ++ headed r.lines rest → Outcome bytes (after_looks r.ended r.lines (many look_at (length rest) rest))
behind_end bytes r rest h is =
    behind_backups bytes whole backups.1 made (subst (λ (t : List ℕ). look_at t ≡ None) g.1 none) no_backup
    (is ∙ ap (λ (t : List ℕ). items_text r.ended ++ headed r.lines t) (f.1 ∙ ap (λ (t : List ℕ). looks_text looks.0 ++ t) g.1))
  where
    looks : List Look × List ℕ
    looks = many look_at (length rest) rest

    f : AllByRecursion IsLook looks.0 × (rest ≡ looks_text looks.0 ++ looks.1)
    f = many_found Any IsLook look_line look_at exact_look (length rest) rest

    none : look_at looks.1 ≡ None
    none = many_none Any IsLook look_line look_at exact_look no_first_look look_some (length rest) rest (omega arith)

    backups : List Backup × List ℕ
    backups = many backup_at (length looks.1) looks.1

    g : AllByRecursion IsBackup backups.0 × (looks.1 ≡ backups_text backups.0 ++ backups.1)
    g = many_found Any IsBackup backup_line backup_at exact_backup (length looks.1) looks.1

    no_backup : backup_at backups.1 ≡ None
    no_backup = many_none Any IsBackup backup_line backup_at exact_backup no_first_backup backup_some (length looks.1) looks.1 (omega arith)

    whole : Report
    whole = record { ended = r.ended; lines = r.lines; looks = looks.0; backups = backups.0 }

    made : IsReport whole
    made = record { items = h.items; lines = h.lines; count = h.count; looks = f.0; backups = g.0 }

-- ---- behind the lines of the history

lines_stuck : (ended : List Ended) (lines : List Line) (rest : List ℕ) → AllByRecursion IsItem ended → AllByRecursion IsLine lines → line_at rest ≡ None → end_at (length lines) rest ≡ None
    → Stuck (front_of ended lines) rest
lines_stuck ended lines rest h g none no_end l b m free is r ok e =
    by (first_parts IsLine line_text line_at exact_line r.lines lines (last r.lines behind) (l ++ (10 ∷ m)) ok.lines g (no_line (length r.lines) behind) inner)
  where
    behind : List ℕ
    behind = tails r []

    whole : items_text r.ended ++ headed r.lines behind ≡ items_text ended ++ (heading ++ (lines_text lines ++ (l ++ (10 ∷ m))))
    whole = sym (text_is r []) ∙ append-nil (text_of r) ∙ e ∙ regroup ended lines (l ++ (10 ∷ m))

    inner : lines_text r.lines ++ last r.lines behind ≡ lines_text lines ++ (l ++ (10 ∷ m))
    inner = same_heading ended r.ended (lines_text r.lines ++ last r.lines behind) (lines_text lines ++ (l ++ (10 ∷ m))) h ok.items whole

    by : (zs : List Line) × AllByRecursion IsLine zs × (r.lines ≡ lines ++ zs) × (l ++ (10 ∷ m) ≡ flat_map line_text zs ++ last r.lines behind) → ⊥
    by ([], a, same, f) =
        let count : length r.lines ≡ length lines = ap length same ∙ ap length (append-nil lines) in
        let small : length lines < 2 ^ 64 = omega (arith, count, ok.count) in
        let here : rest ≡ end_line (length lines) ++ b = same_line (end_line (length lines)) l m behind rest b (end_line_is (length lines) small) free (f ∙ ap (λ (n : ℕ). end_line n ++ behind) count) is in
        not_none Any (IsCount (length lines)) end_line (end_at (length lines)) (exact_end (length lines)) (length lines) rest b (small, eq-eqb (length lines) (length lines) refl) tt here no_end
    by ((z ∷ zs), a, same, f) =
        let here : rest ≡ line_text z ++ b = same_line (line_text z) l m (flat_map line_text zs ++ last r.lines behind) rest b (line_text_is z a.0) free (f ∙ append_assoc (line_text z) (flat_map line_text zs) (last r.lines behind)) is in
        not_none Any IsLine line_text line_at exact_line z rest b a.0 tt here none

-- there are no more lines than bytes
few : (lines : List Line) (a b c d bytes : List ℕ) → AllByRecursion IsLine lines → bytes ≡ a ++ (b ++ (c ++ d)) → length lines ≤ length c → length bytes < 2 ^ 64 → length lines < 2 ^ 64
few lines a b c d bytes h is le small = omega (arith, ap length is, length-append a (b ++ (c ++ d)), length-append b (c ++ d), length-append c d, le, small)

behind_lines : (bytes : List ℕ) (ended : List Ended) (lines : List Line × List ℕ) → length bytes < 2 ^ 64 → AllByRecursion IsItem ended → AllByRecursion IsLine lines.0 → line_at lines.1 ≡ None
    → bytes ≡ items_text ended ++ (heading ++ (lines_text lines.0 ++ lines.1)) → Outcome bytes (after_lines ended lines)
behind_lines bytes ended lines small h g none is = by (end_at (length lines.0) lines.1) refl
  where
    count : length lines.0 < 2 ^ 64
    count = few lines.0 (items_text ended) heading (lines_text lines.0) lines.1 bytes g is (long_enough Any IsLine line_text line_at exact_line (λ v more k. tt) line_some lines.0 g) small

    made : IsReport (report ended lines.0)
    made = record { items = h; lines = g; count = count; looks = tt; backups = tt }

    by : (o : Option (ℕ × List ℕ)) → end_at (length lines.0) lines.1 ≡ o → Outcome bytes (after_end ended lines.0 lines.1 o)
    by None no_end = record {
      front = front_of ended lines.0;
      whole = is ∙ sym (regroup ended lines.0 lines.1);
      begins = (report ended lines.0, last lines.0 [], made, sym (append-nil (text_of (report ended lines.0))) ∙ text_is (report ended lines.0) [] ∙ sym (regroup ended lines.0 (last lines.0 [])));
      stuck = lines_stuck ended lines.0 lines.1 h g none no_end;
    }
    by (Some x) was =
        let f = (exact_end (length lines.0)).found lines.1 x was in
        let same : x.0 ≡ length lines.0 = eqb-true x.0 (length lines.0) f.0.1 in
        let rest : lines.1 ≡ last lines.0 x.1 = f.1 ∙ ap (λ (n : ℕ). end_line n ++ x.1) same in
        behind_end bytes (report ended lines.0) x.1 made (is ∙ ap (λ (t : List ℕ). items_text ended ++ (heading ++ (lines_text lines.0 ++ t))) rest)

-- ---- behind the lines of the items

items_stuck : (ended : List Ended) (rest : List ℕ) → AllByRecursion IsItem ended → item_at rest ≡ None → strip heading rest ≡ None → Stuck (items_text ended) rest
items_stuck ended rest h none no_heading l b m free is r ok e =
    by (first_parts IsItem item_line item_at exact_item r.ended ended (headed r.lines behind) (l ++ (10 ∷ m)) ok.items h (no_item (lines_text r.lines ++ last r.lines behind)) (sym (text_is r []) ∙ append-nil (text_of r) ∙ e))
  where
    behind : List ℕ
    behind = tails r []

    found_heading : (o : Option (List ℕ)) (t : List ℕ) → o ≡ None → o ≡ Some t → ⊥
    found_heading None t p q = cc
    found_heading (Some s) t p q = cc

    by : (zs : List Ended) × AllByRecursion IsItem zs × (r.ended ≡ ended ++ zs) × (l ++ (10 ∷ m) ≡ flat_map item_line zs ++ headed r.lines behind) → ⊥
    by ([], a, same, f) =
        let here : rest ≡ heading ++ b = same_line heading l m (lines_text r.lines ++ last r.lines behind) rest b heading_is free f is in
        found_heading (strip heading rest) b no_heading (ap (strip heading) here ∙ strip_again heading b)
    by ((z ∷ zs), a, same, f) =
        let here : rest ≡ item_line z ++ b = same_line (item_line z) l m (flat_map item_line zs ++ headed r.lines behind) rest b (item_line_is z a.0) free (f ∙ append_assoc (item_line z) (flat_map item_line zs) (headed r.lines behind)) is in
        not_none Any IsItem item_line item_at exact_item z rest b a.0 tt here none

no_first_line : line_at [] ≡ None
unfolding line_at ts_at number_at
no_first_line = refl

no_first_item : item_at [] ≡ None
unfolding item_at who_at number_at
no_first_item = refl

behind_items : (bytes : List ℕ) (items : List Ended × List ℕ) → length bytes < 2 ^ 64 → AllByRecursion IsItem items.0 → item_at items.1 ≡ None → bytes ≡ items_text items.0 ++ items.1 → Outcome bytes (after_items items)
behind_items bytes items small h none is = by (strip heading items.1) refl
  where
    empty : Report
    empty = report items.0 []

    made : IsReport (report items.0 [])
    made = record { items = h; lines = tt; count = omega arith; looks = tt; backups = tt }

    by : (o : Option (List ℕ)) → strip heading items.1 ≡ o → Outcome bytes (after_heading items.0 items.1 o)
    by None no_heading = record {
      front = items_text items.0;
      whole = is;
      begins = (report items.0 [], headed [] [], made, sym (append-nil (text_of (report items.0 []))) ∙ text_is (report items.0 []) []);
      stuck = items_stuck items.0 items.1 h none no_heading;
    }
    by (Some rest) was =
        let f = many_found Any IsLine line_text line_at exact_line (length rest) rest in
        let lines = many line_at (length rest) rest in
        let no_more = many_none Any IsLine line_text line_at exact_line no_first_line line_some (length rest) rest (omega arith) in
        behind_lines bytes items.0 lines small h f.0 no_more (is ∙ ap (λ (t : List ℕ). items_text items.0 ++ t) (strip_found heading items.1 rest was ∙ ap (λ (t : List ℕ). heading ++ t) f.1))

outcome : (bytes : List ℕ) → length bytes < 2 ^ 64 → Outcome bytes (whole_of bytes)
unfolding whole_of
outcome bytes small =
    let f = many_found Any IsItem item_line item_at exact_item (length bytes) bytes in
    let no_more = many_none Any IsItem item_line item_at exact_item no_first_item item_some (length bytes) bytes (omega arith) in
    behind_items bytes (many item_at (length bytes) bytes) small f.0 no_more f.1

-- ---- the line

-- a front that goes on behind the place with no line begins no more lines
behind_front : (bytes rest : List ℕ) (at : StuckAt bytes rest) (other more e : List ℕ) → BeginsReport other → other ≡ at.front ++ e → rest ≡ e ++ more
    → (ended_lines e ≡ 0) ⊎ ((l : List ℕ) × (m : List ℕ) × NoEnd l × (e ≡ l ++ (10 ∷ m))) → ended_lines other ≤ ended_lines at.front
behind_front bytes rest at other more e begun same left (inl none) = omega (arith, ap ended_lines same, ended-append at.front e, none)
behind_front bytes rest at other more e begun same left (inr (l, m, free, parts)) =
    let r = begun.0 in
    let here : rest ≡ l ++ (10 ∷ (m ++ more)) = left ∙ ap (λ (t : List ℕ). t ++ more) parts ∙ append_assoc l (10 ∷ m) more in
    let text : text_of r ≡ at.front ++ (l ++ (10 ∷ (m ++ begun.1))) =
    begun.3 ∙ ap (λ (t : List ℕ). t ++ begun.1) (same ∙ ap (λ (t : List ℕ). at.front ++ t) parts) ∙ append_assoc at.front (l ++ (10 ∷ m)) begun.1 ∙ ap (λ (t : List ℕ). at.front ++ t) (append_assoc l (10 ∷ m) begun.1) in
    absurd (at.stuck l (m ++ more) (m ++ begun.1) free here r begun.2 text)

-- a front with more lines begins no report
no_longer : (bytes rest : List ℕ) (at : StuckAt bytes rest) (other more : List ℕ) → bytes ≡ other ++ more → BeginsReport other → ended_lines other ≤ ended_lines at.front
no_longer bytes rest at other more is begun = by (splits other more at.front rest (sym is ∙ at.whole))
  where
    by : ((e : List ℕ) × (other ≡ at.front ++ e) × (rest ≡ e ++ more)) ⊎ ((e : List ℕ) × (at.front ≡ other ++ e)) → ended_lines other ≤ ended_lines at.front
    by (inr (e, same)) = omega (arith, ap ended_lines same, ended-append other e)
    by (inl (e, same, left)) = behind_front bytes rest at other more e begun same left (first_line e)

-- no text of a report is read otherwise
done_left : (r : Report) (rest : List ℕ) → done r ≡ left rest → ⊥
done_left r rest e = cc

not_text : (bytes rest : List ℕ) → whole_of bytes ≡ left rest → (r : Report) → IsReport r → text_of r ≢ bytes
not_text bytes rest was r h e = done_left r rest (sym (read_whole r h) ∙ ap whole_of e ∙ was)

stops : (bytes rest : List ℕ) → whole_of bytes ≡ left rest → StuckAt bytes rest → StopsOn bytes (fault_line bytes rest)
stops bytes rest was at =
    let count : length bytes - length rest ≡ length at.front = omega (arith, ap length at.whole, length-append at.front rest) in
    let read : take (length bytes - length rest) bytes ≡ at.front = ap (λ (n : ℕ). take n bytes) count ∙ ap (take (length at.front)) at.whole ∙ take-append_seam at.front rest in
    record {
      no_report = not_text bytes rest was;
      front = at.front;
      behind = rest;
      whole = at.whole;
      begins = at.begins;
      longest = no_longer bytes rest at;
      line_is = ap (λ (t : List ℕ). min (ended_lines t + 1) (last_line bytes)) read;
    }

-- there is one such line
one_line : (bytes : List ℕ) (n m : ℕ) → StopsOn bytes n → StopsOn bytes m → n ≡ m
one_line bytes n m p q =
    let up = q.longest p.front p.behind p.whole p.begins in
    let down = p.longest q.front q.behind q.whole q.begins in
    let same : ended_lines p.front ≡ ended_lines q.front = omega (arith, up, down) in
    p.line_is ∙ ap (λ (k : ℕ). min (k + 1) (last_line bytes)) same ∙ sym q.line_is

-- ---- what the call answers

abbrev Read : List ℕ → Result Report SyntaxError → Type 0
Read bytes result = Gives result (report_or_line bytes (whole_of bytes))

abbrev found : Report → Result Report Syntax
found r = Ok r

abbrev failed : Syntax → Result Report Syntax
failed f = Err f

done_same : (r s : Report) → found r ≡ found s → r ≡ s
done_same r s e = cc

told_ok : (bytes : List ℕ) (w : Result Report (List ℕ)) (r : Report) → report_or_line bytes w ≡ found r → w ≡ done r
told_ok bytes (Ok s) r e = ap done (done_same s r e)
told_ok bytes (Err rest) r e = absurd cc

line_same : (f g : Syntax) → failed f ≡ failed g → f.line ≡ g.line
line_same f g e = let same : f ≡ g = cc in ap (λ (h : Syntax). h.line) same

told_err : (bytes : List ℕ) (w : Result Report (List ℕ)) (f : Syntax) → report_or_line bytes w ≡ failed f → (rest : List ℕ) × (w ≡ left rest) × (fault_line bytes rest ≡ f.line)
told_err bytes (Ok s) f e = absurd cc
told_err bytes (Err rest) f e = (rest, refl, line_same (record { line = fault_line bytes rest }) f e)

pub is_read : (bytes : List ℕ) (result : Result Report SyntaxError) → length bytes < 2 ^ 64 → Read bytes result → IfOk result (λ r. IsReport r × (text_of r ≡ bytes))
is_read bytes (Ok r) small given = subst (Outcome bytes) (told_ok bytes (whole_of bytes) r given) (outcome bytes small)
is_read bytes (Err e) small given = tt

pub is_only : (bytes : List ℕ) (result : Result Report SyntaxError) → Read bytes result → (r : Report) → IsReport r → text_of r ≡ bytes → Gives result (found r)
is_only bytes result given r h e =
    subst (λ (w : Result Report (List ℕ)). Gives result (report_or_line bytes w)) (ap whole_of (sym e) ∙ read_whole r h) given

stop_of : (bytes rest : List ℕ) → length bytes < 2 ^ 64 → whole_of bytes ≡ left rest → StopsOn bytes (fault_line bytes rest)
stop_of bytes rest small was = stops bytes rest was (subst (Outcome bytes) was (outcome bytes small))

pub is_stop : (bytes : List ℕ) (result : Result Report SyntaxError) → length bytes < 2 ^ 64 → Read bytes result → IfErr result (IsStopOf bytes)
is_stop bytes (Ok r) small given = tt
is_stop bytes (Err (errors.Fault f)) small given =
    let t = told_err bytes (whole_of bytes) f given in
    subst (StopsOn bytes) t.2 (stop_of bytes t.0 small t.1)
is_stop bytes (Err errors.NoMemory) small given = tt

pub is_only_fault : (bytes : List ℕ) (result : Result Report SyntaxError) → length bytes < 2 ^ 64 → Read bytes result → (f : Syntax) → StopsOn bytes f.line → Gives result (failed f)
is_only_fault bytes result small given f at = by (whole_of bytes) refl
  where
    by : (w : Result Report (List ℕ)) → whole_of bytes ≡ w → Gives result (failed f)
    by (Ok r) was = let h = subst (Outcome bytes) was (outcome bytes small) in absurd (at.no_report r h.0 h.1)
    by (Err rest) was =
        let same : fault_line bytes rest ≡ f.line = one_line bytes (fault_line bytes rest) f.line (stop_of bytes rest small was) at in
        let told_so : report_or_line bytes (whole_of bytes) ≡ failed f = ap (report_or_line bytes) was ∙ ap (λ (n : ℕ). failed (record { line = n })) same in
        subst (Gives result) told_so given

-- ---- laws

pub same_report : (a b : Report) → IsReport a → IsReport b → text_of a ≡ text_of b → a ≡ b
same_report a b g h e = just a b (sym (read_whole a g) ∙ ap whole_of e ∙ read_whole b h)
  where
    just : (r s : Report) → done r ≡ done s → r ≡ s
    just r s p = cc
