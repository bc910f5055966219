-- A report's text tells all that it shows, and depends on nothing else.
use Rattle.std.proofs.Common.{◌≡◌, ◌≢◌, ℕ, List, [], ◌∷◌, ◌++◌, length, append-nil, refl, sym, ◌∙◌, ap, map, codes, All}
use Rattle.std.specs.List.{flat_map}
use Rattle.std.proofs.lemmas.List.Elements.{All-head, All-tail}
use Rattle.std.specs.Fmt.{decimal}
use Rattle.std.proofs.lemmas.List.Concat.{flat_map-append}
use Rattle.std.proofs.lemmas.List.Folds.{flat_map-map}
use Rattle.serial_model.specs.declared.entries.Did.{Did}
use Rattle.serial_model.specs.declared.outcomes.Ended.{Ended}
use Rattle.serial_model.specs.declared.outcomes.ItemOutcome.{ItemOutcome}
use Rattle.serial_model.specs.declared.outcomes.ItemOutcome.TheVariants.{Done, Upgraded, Faulted, Refused, Unknown}
use Rattle.report_text.specs.Words.{who_word, ts_word}
use Rattle.report_text.specs.Report.{report_text, item_line, history_line, history_heading, end_line, outcome_words, effect_words}
use Rattle.report_text.specs.Shown.{shown_item, shown_entry, FitsItem, FitsEntry, IsReported}
use Rattle.report_text.proofs.Splits.{Words, PlainLine, PlainLines, line_of, plain_lines-append, cut_lines}
use Rattle.report_text.proofs.PlainWords.{decimal_plain, who_plain, who_tells, ts_plain, ts_tells, tested_above}
use Rattle.report_text.proofs.OutcomeWords.{outcome_plain, outcome_tells}
use Rattle.report_text.proofs.HistoryWords.{effect_of, effect_plain, effect_tells}

-- the report as lines of words
abbrev item_words : Ended → Words
item_words e = (who_word e.who, outcome_words e.tries e.outcome)

abbrev entry_words : Did → Words
entry_words d = (ts_word d.ts, who_word d.who ∷ effect_words d.number d.fresh d.answer)

abbrev heading : Words
heading = (codes "history", [])

abbrev end_words : ℕ → Words
end_words n = (codes "end", decimal n ∷ [])

abbrev report_lines : List Ended → List Did → List Words
report_lines ends history = map item_words ends ++ (heading ∷ (map entry_words history ++ (end_words (length history) ∷ [])))

text_of_lines : (ends : List Ended) (history : List Did) → report_text ends history ≡ flat_map line_of (report_lines ends history)
unfolding report_text item_line history_line
text_of_lines ends history =
    let items = flat_map-map line_of item_words ends in
    let entries = flat_map-map line_of entry_words history in
    let outer = flat_map-append line_of (map item_words ends) (heading ∷ (map entry_words history ++ (end_words (length history) ∷ []))) in
    let inner = flat_map-append line_of (map entry_words history) (end_words (length history) ∷ []) in
    let last = append-nil (end_line (length history)) in
    sym (outer ∙ (λ i. items i ++ (history_heading ++ inner i)) ∙ (λ i. flat_map item_line ends ++ (history_heading ++ (entries i ++ last i))))

-- the lines have no space and no end of a line in a word
item_plain : (e : Ended) → FitsItem e → PlainLine (item_words e)
item_plain e f = (who_plain e.who f.who, outcome_plain e.tries e.outcome f.tries f.outcome)

entry_plain : (d : Did) → FitsEntry d → PlainLine (entry_words d)
entry_plain d f = (ts_plain d.ts f.ts, (who_plain d.who f.who, effect_plain d.number d.fresh d.answer (effect_of d f)))

lines_plain : {X : Type 0} (words : X → Words) (P : X → Type 0) → ((x : X) → P x → PlainLine (words x)) → (xs : List X) → All P xs → PlainLines (map words xs)
lines_plain words P each [] a = tt
lines_plain words P each (x ∷ xs) a = (each x (All-head P x xs a), lines_plain words P each xs (All-tail P x xs a))

report_plain : (ends : List Ended) (history : List Did) → IsReported ends history → PlainLines (report_lines ends history)
report_plain ends history r =
    plain_lines-append (map item_words ends) _ (lines_plain item_words FitsItem item_plain ends r.items) (
      (tested_above 32 (codes "history") refl, tt),
      plain_lines-append (map entry_words history) (end_words (length history) ∷ []) (lines_plain entry_words FitsEntry entry_plain history r.entries)
          ((tested_above 32 (codes "end") refl, (decimal_plain (length history) r.count, tt)), tt),
    )

-- an item's line is not the heading
outcome_some : (n : ℕ) (o : ItemOutcome) → [] ≢ outcome_words n o
unfolding outcome_words
outcome_some n (Done ts answer) e = cc
outcome_some n (Upgraded ts number) e = cc
outcome_some n (Faulted ts fault) e = cc
outcome_some n (Refused cause) e = cc
outcome_some n (Unknown tx) e = cc

item_apart : (e : Ended) → heading ≢ item_words e
item_apart e same = outcome_some e.tries e.outcome (ap (λ (l : Words). l.1) same)

item_tells : (e f : Ended) → FitsItem e → FitsItem f → item_words e ≡ item_words f → shown_item e ≡ shown_item f
item_tells e f p q same =
    let who = who_tells e.who f.who p.who q.who (ap (λ (l : Words). l.0) same) in
    let both = outcome_tells e.tries f.tries e.outcome f.outcome p.tries q.tries p.outcome q.outcome (ap (λ (l : Words). l.1) same) in
    λ i. record { who = who i; tries = both.1 i; outcome = both.0 i }

entry_tells : (d c : Did) → FitsEntry d → FitsEntry c → entry_words d ≡ entry_words c → shown_entry d ≡ shown_entry c
entry_tells d c p q same =
    let others : who_word d.who ∷ effect_words d.number d.fresh d.answer ≡ who_word c.who ∷ effect_words c.number c.fresh c.answer = ap (λ (l : Words). l.1) same in
    let word : who_word d.who ≡ who_word c.who = cc in
    let effect : effect_words d.number d.fresh d.answer ≡ effect_words c.number c.fresh c.answer = cc in
    let ts = ts_tells d.ts c.ts p.ts q.ts (ap (λ (l : Words). l.0) same) in
    let who = who_tells d.who c.who p.who q.who word in
    let all = effect_tells d.number c.number d.fresh c.fresh d.answer c.answer (effect_of d p) (effect_of c q) effect in
    λ i. record { ts = ts i; who = who i; number = all.0 i; fresh = all.1 i; answer = all.2 i }

-- the items' lines, up to the heading
cut_items : (ends others : List Ended) (s t : List Words) → All FitsItem ends → All FitsItem others
    → map item_words ends ++ (heading ∷ s) ≡ map item_words others ++ (heading ∷ t) → (map shown_item ends ≡ map shown_item others) × (s ≡ t)
cut_items [] [] s t p q e = (refl, cc)
cut_items [] (f ∷ fs) s t p q e = let same : heading ≡ item_words f = cc in absurd (item_apart f same)
cut_items (e ∷ es) [] s t p q same = let first : item_words e ≡ heading = cc in absurd (item_apart e (sym first))
cut_items (e ∷ es) (f ∷ fs) s t p q same =
    let first : item_words e ≡ item_words f = cc in
    let rest : map item_words es ++ (heading ∷ s) ≡ map item_words fs ++ (heading ∷ t) = cc in
    let one = item_tells e f (All-head FitsItem e es p) (All-head FitsItem f fs q) first in
    let more = cut_items es fs s t (All-tail FitsItem e es p) (All-tail FitsItem f fs q) rest in
    ((λ i. one i ∷ more.0 i), more.1)

one_more : (ls : List Words) (l : Words) → [] ≢ ls ++ (l ∷ [])
one_more [] l e = cc
one_more (m ∷ ls) l e = cc

-- the entries' lines, but for the last line
cut_entries : (history other : List Did) (s t : Words) → All FitsEntry history → All FitsEntry other
    → map entry_words history ++ (s ∷ []) ≡ map entry_words other ++ (t ∷ []) → map shown_entry history ≡ map shown_entry other
cut_entries [] [] s t p q e = refl
cut_entries [] (c ∷ cs) s t p q e = let rest : [] ≡ map entry_words cs ++ (t ∷ []) = cc in absurd (one_more (map entry_words cs) t rest)
cut_entries (d ∷ ds) [] s t p q e = let rest : [] ≡ map entry_words ds ++ (s ∷ []) = cc in absurd (one_more (map entry_words ds) s rest)
cut_entries (d ∷ ds) (c ∷ cs) s t p q e =
    let first : entry_words d ≡ entry_words c = cc in
    let rest : map entry_words ds ++ (s ∷ []) ≡ map entry_words cs ++ (t ∷ []) = cc in
    let one = entry_tells d c (All-head FitsEntry d ds p) (All-head FitsEntry c cs q) first in
    let more = cut_entries ds cs s t (All-tail FitsEntry d ds p) (All-tail FitsEntry c cs q) rest in
    λ i. one i ∷ more i

pub text_tells : (ends : List Ended) (history : List Did) (others : List Ended) (other : List Did)
    → IsReported ends history → IsReported others other → report_text ends history ≡ report_text others other
    → (map shown_item ends ≡ map shown_item others) × (map shown_entry history ≡ map shown_entry other)
text_tells ends history others other p q e =
    let texts : flat_map line_of (report_lines ends history) ≡ flat_map line_of (report_lines others other) =
    sym (text_of_lines ends history) ∙ e ∙ text_of_lines others other in
    let lines = cut_lines (report_lines ends history) (report_lines others other) (report_plain ends history p) (report_plain others other q) texts in
    let items = cut_items ends others _ _ p.items q.items lines in
    let entries = cut_entries history other _ _ p.entries q.entries items.1 in
    (items.0, entries)
