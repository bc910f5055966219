-- The report of a run: how each item ended, then the serial history. This project's.
use Rattle.std.specs.Prelude.{ℕ, zero, suc, ℤ, List, [], ◌∷◌, ◌++◌, length, map, codes}
use Rattle.std.specs.List.{flat_map}
use Rattle.std.specs.Fmt.{decimal, signed_decimal}
use Rattle.thor_value.specs.declared.names.Oref.{Oref}
use Rattle.thor_value.specs.declared.values.Answer.{Answer}
use Rattle.thor_value.specs.declared.values.Answer.TheVariants.{Ints, Fault}
use Rattle.serial_model.specs.declared.entries.Did.{Did}
use Rattle.serial_model.specs.declared.outcomes.Ended.{Ended}
use Rattle.serial_model.specs.declared.outcomes.ItemOutcome.{ItemOutcome}
use Rattle.serial_model.specs.declared.outcomes.ItemOutcome.TheVariants.{Done, Upgraded, Faulted, Refused, Unknown}
use Rattle.report_text.specs.Lines.{line}
use Rattle.report_text.specs.Words.{Word, who_word, ts_word, oref_word, fault_word, cause_words}

-- printed values, each as one word, behind a `:`
abbrev pub values_words : List ℤ → List Word
values_words values = codes ":" ∷ map signed_decimal values

-- the number of the try that was the last
abbrev pub try_words : ℕ → List Word
try_words tries = codes "try" ∷ decimal tries ∷ []

-- the number of an upgrade
abbrev pub upgrade_words : ℕ → List Word
upgrade_words number = codes "upgrade" ∷ decimal number ∷ []

-- How an item ended: in which transaction and at which try, and what it answered or why it was refused. Of an
-- item that may have been committed or not, the transaction alone.
unfoldable pub outcome_words : ℕ → ItemOutcome → List Word
outcome_words tries (Done ts answer) = codes "Done" ∷ ts_word ts ∷ (try_words tries ++ values_words answer)
outcome_words tries (Upgraded ts number) = codes "Done" ∷ ts_word ts ∷ (try_words tries ++ upgrade_words number)
outcome_words tries (Faulted ts fault) = codes "Faulted" ∷ fault_word fault ∷ ts_word ts ∷ try_words tries
outcome_words tries (Refused cause) = codes "Refused" ∷ (cause_words cause ++ try_words tries)
outcome_words tries (Unknown tx) = codes "Unknown" ∷ ts_word tx ∷ []

-- the line of an item
unfoldable pub item_line : Ended → List ℕ
item_line e = line (who_word e.who) (outcome_words e.tries e.outcome)

-- the names of new objects behind the word `new`, or nothing where there is none
abbrev pub fresh_words : List Oref → List Word
fresh_words [] = []
fresh_words (x ∷ xs) = codes "new" ∷ map oref_word (x ∷ xs)

-- what a transaction did: its new objects and its values, or the fault that ended it
abbrev pub answer_words : List Oref → Answer → List Word
answer_words fresh (Ints values) = fresh_words fresh ++ values_words values
answer_words fresh (Fault fault) = codes "!" ∷ fault_word fault ∷ []

-- What an entry of the history did. An upgrade is told by its number, which is 0 for a transaction alone.
abbrev pub effect_words : ℕ → List Oref → Answer → List Word
effect_words zero fresh answer = answer_words fresh answer
effect_words (suc n) fresh answer = upgrade_words (suc n)

-- the line of an entry of the history
unfoldable pub history_line : Did → List ℕ
history_line d = line (ts_word d.ts) (who_word d.who ∷ effect_words d.number d.fresh d.answer)

-- the line between the items and the history
abbrev pub history_heading : List ℕ
history_heading = line (codes "history") []

-- the last line, with the number of the history's lines
abbrev pub end_line : ℕ → List ℕ
end_line count = line (codes "end") (decimal count ∷ [])

-- the report of these outcomes and this history
unfoldable pub report_text : List Ended → List Did → List ℕ
report_text ends history =
    flat_map item_line ends ++ (history_heading ++ (flat_map history_line history ++ end_line (length history)))
