-- A report's text is one that is printed, and what is printed is the text of a report.
use Rattle.std.proofs.Common.{◌≡◌, ℕ, List, [], ◌∷◌, append-nil, map, refl, sym, ◌∙◌, arith}
use Rattle.std.specs.List.{AllByRecursion}
use Rattle.std.proofs.lemmas.List.{length-map}
use Rattle.std.proofs.lemmas.List.Elements.{All-from_recursion}
use Rattle.serial_model.specs.declared.entries.Did.{Did}
use Rattle.serial_model.specs.declared.outcomes.Ended.{Ended}
use Rattle.serial_model.specs.declared.outcomes.ItemOutcome.{ItemOutcome}
use Rattle.serial_model.specs.declared.outcomes.ItemOutcome.TheVariants.{Done, Upgraded, Faulted, Refused, Unknown}
use Rattle.report_text.specs.Report.{report_text}
use Rattle.report_text.specs.Shown.{FitsItem, FitsEntry, IsReported, shown_tries, shown_item, shown_entry}
use Rattle.report_text.proofs.ReportShows.{same_text}
use Rattle.report_parse.specs.declared.report.Report.{Report}
use Rattle.report_parse.specs.declared.report.Line.{Line}
use Rattle.report_parse.specs.Reports.{IsItem, IsLine, IsReport, entry_of, line_of, report_of, text_of}
use Rattle.report_parse.proofs.Ends.{item_fits, entry_fits}

items_fit : (ended : List Ended) → AllByRecursion IsItem ended → AllByRecursion FitsItem ended
items_fit [] h = tt
items_fit (e ∷ ended) h = (item_fits e h.0, items_fit ended h.1)

entries_fit : (lines : List Line) → AllByRecursion IsLine lines → AllByRecursion FitsEntry (map entry_of lines)
entries_fit [] h = tt
entries_fit (l ∷ lines) h = (entry_fits l h.0, entries_fit lines h.1)

pub is_reported : (r : Report) → IsReport r → IsReported r.ended (map entry_of r.lines)
is_reported r h = record {
  items = All-from_recursion FitsItem r.ended (items_fit r.ended h.items);
  entries = All-from_recursion FitsEntry (map entry_of r.lines) (entries_fit r.lines h.lines);
  count = omega (arith, length-map r.lines entry_of, h.count);
}

-- what is shown of what is shown is the same

twice_tries : (n : ℕ) (o : ItemOutcome) → shown_tries n o ≡ shown_tries (shown_tries n o) o
twice_tries n (Done ts answer) = refl
twice_tries n (Upgraded ts number) = refl
twice_tries n (Faulted ts fault) = refl
twice_tries n (Refused cause) = refl
twice_tries n (Unknown tx) = refl

twice_items : (ends : List Ended) → map shown_item ends ≡ map shown_item (map shown_item ends)
twice_items [] = refl
twice_items (e ∷ ends) = λ i. record { who = e.who; tries = twice_tries e.tries e.outcome i; outcome = e.outcome } ∷ twice_items ends i

twice_entries : (history : List Did) → map shown_entry history ≡ map shown_entry (map entry_of (map line_of history))
twice_entries [] = refl
twice_entries (d ∷ history) = λ i. shown_entry d ∷ twice_entries history i

pub printed_is : (ends : List Ended) (history : List Did) → report_text ends history ≡ text_of (report_of ends history)
printed_is ends history =
    same_text ends history (map shown_item ends) (map entry_of (map line_of history)) (twice_items ends) (twice_entries history)
    ∙ sym (append-nil (report_text (map shown_item ends) (map entry_of (map line_of history))))
