-- The words that stand for names, timestamps, faults and causes. Numbers are decimal. This project's.
use Rattle.std.specs.Prelude.{ℕ, List, [], ◌∷◌, ◌++◌, codes}
use Rattle.std.specs.Fmt.{decimal}
use Rattle.thor_value.specs.declared.names.Oref.{Oref}
use Rattle.thor_value.specs.declared.names.Ts.{Ts}
use Rattle.thor_value.specs.declared.values.Who.{Who}
use Rattle.thor_value.specs.declared.values.Fault.{Fault}
use Rattle.thor_value.specs.declared.values.Fault.TheVariants.{NullCall, Steps, Depth, Large}
use Rattle.serial_model.specs.declared.outcomes.Cause.{Cause}
use Rattle.serial_model.specs.declared.outcomes.Cause.TheVariants.{Missing, Down, Calls}
use Rattle.serial_model.specs.declared.outcomes.Cause.TheVariants as cause
use Rattle.base_reasons.specs.declared.reason.Reason.TheVariants.{Stale, Earlier, Later, TooOld, Epoch, Blocked, Gone, Full, ClockEnd}

-- a word: bytes without a space or the end of a line
abbrev pub Word : Type 0
Word = List ℕ

-- two numbers as one word, as `1.2`
abbrev pub two_numbers : ℕ → ℕ → Word
two_numbers a b = decimal a ++ (46 ∷ decimal b)

-- three numbers as one word, as `1.0.3`
abbrev pub three_numbers : ℕ → ℕ → ℕ → Word
three_numbers a b c = decimal a ++ (46 ∷ two_numbers b c)

-- an item by client and index, as `2.1`
unfoldable pub who_word : Who → Word
who_word w = two_numbers w.client w.index

-- a timestamp by time, repository and life, as `7.0.1`
unfoldable pub ts_word : Ts → Word
ts_word t = three_numbers t.time t.repo t.life

-- a name by repository, page and slot, as `0.3.11`
unfoldable pub oref_word : Oref → Word
oref_word x = three_numbers x.repo x.page x.slot

-- a fault by its name
abbrev pub fault_word : Fault → Word
fault_word NullCall = codes "NullCall"
fault_word Steps = codes "Steps"
fault_word Depth = codes "Depth"
fault_word Large = codes "Large"

-- a cause by its name, then what it names
unfoldable pub cause_words : Cause → List Word
cause_words (cause.Reason (Stale oref place)) = codes "Stale" ∷ oref_word oref ∷ decimal place ∷ []
cause_words (cause.Reason (Earlier tx oref)) = codes "Earlier" ∷ ts_word tx ∷ oref_word oref ∷ []
cause_words (cause.Reason (Later tx oref)) = codes "Later" ∷ ts_word tx ∷ oref_word oref ∷ []
cause_words (cause.Reason (TooOld threshold)) = codes "TooOld" ∷ ts_word threshold ∷ []
cause_words (cause.Reason (Epoch n)) = codes "Epoch" ∷ decimal n ∷ []
cause_words (cause.Reason (Blocked tx)) = codes "Blocked" ∷ ts_word tx ∷ []
cause_words (cause.Reason (Gone session)) = codes "Gone" ∷ decimal session ∷ []
cause_words (Missing oref) = codes "Missing" ∷ oref_word oref ∷ []
cause_words (Down repo) = codes "Down" ∷ decimal repo ∷ []
cause_words (cause.Reason (Full limit)) = codes "Full" ∷ decimal limit ∷ []
cause_words (cause.Reason ClockEnd) = codes "ClockEnd" ∷ []
cause_words Calls = codes "Calls" ∷ []
