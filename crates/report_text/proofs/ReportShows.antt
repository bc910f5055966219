-- A report's text depends on nothing but what it shows.
use Rattle.std.proofs.Common.{◌≡◌, ℕ, List, [], ◌∷◌, ◌++◌, length, refl, sym, ◌∙◌, ap, map}
use Rattle.std.proofs.lemmas.List.{length-map}
use Rattle.std.specs.List.{flat_map}
use Rattle.serial_model.specs.declared.entries.Did.{Did}
use Rattle.serial_model.specs.declared.outcomes.Ended.{Ended}
use Rattle.serial_model.specs.declared.outcomes.ItemOutcome.{ItemOutcome}
use Rattle.serial_model.specs.declared.outcomes.ItemOutcome.TheVariants.{Done, Upgraded, Faulted, Refused, Unknown}
use Rattle.report_text.specs.Lines.{line}
use Rattle.report_text.specs.Words.{who_word, ts_word}
use Rattle.report_text.specs.Report.{report_text, item_line, history_line, history_heading, end_line, outcome_words, effect_words}
use Rattle.report_text.specs.Shown.{Shown, shown_item, shown_entry, shown_tries}

same_words : (n : ℕ) (o : ItemOutcome) → outcome_words n o ≡ outcome_words (shown_tries n o) o
unfolding outcome_words
same_words n (Done ts answer) = refl
same_words n (Upgraded ts number) = refl
same_words n (Faulted ts fault) = refl
same_words n (Refused cause) = refl
same_words n (Unknown tx) = refl

same_line : (e : Ended) → item_line e ≡ item_line (shown_item e)
unfolding item_line
same_line e = ap (line (who_word e.who)) (same_words e.tries e.outcome)

same_lines : (ends : List Ended) → flat_map item_line ends ≡ flat_map item_line (map shown_item ends)
same_lines [] = refl
same_lines (e ∷ es) = λ i. same_line e i ++ same_lines es i

-- the line of what a report shows of an entry
abbrev shown_line : Shown → List ℕ
shown_line s = line (ts_word s.ts) (who_word s.who ∷ effect_words s.number s.fresh s.answer)

same_entries : (history : List Did) → flat_map history_line history ≡ flat_map shown_line (map shown_entry history)
unfolding history_line
same_entries [] = refl
same_entries (d ∷ ds) = λ i. shown_line (shown_entry d) ++ same_entries ds i

pub same_text : (ends : List Ended) (history : List Did) (others : List Ended) (other : List Did)
    → map shown_item ends ≡ map shown_item others → map shown_entry history ≡ map shown_entry other
    → report_text ends history ≡ report_text others other
unfolding report_text
same_text ends history others other p q =
    let items : flat_map item_line ends ≡ flat_map item_line others = same_lines ends ∙ ap (flat_map item_line) p ∙ sym (same_lines others) in
    let entries : flat_map history_line history ≡ flat_map history_line other = same_entries history ∙ ap (flat_map shown_line) q ∙ sym (same_entries other) in
    let count : length history ≡ length other = sym (length-map history shown_entry) ∙ ap length q ∙ length-map other shown_entry in
    λ i. items i ++ (history_heading ++ (entries i ++ end_line (count i)))
