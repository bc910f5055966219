-- What a report's text tells: all of the outcomes and the history but the items of the script that its entries
-- perform, and the number of tries of an item of which it isn't known whether it was committed. This project's.
use Rattle.std.specs.Prelude.{◌≡◌, ◌≢◌, ℕ, zero, suc, ◌<◌, ◌^◌, List, [], length, map, All, ⊤}
use Rattle.thor_value.specs.declared.names.Oref.{Oref}
use Rattle.thor_value.specs.declared.names.Ts.{Ts}
use Rattle.thor_value.specs.declared.values.Who.{Who}
use Rattle.thor_value.specs.declared.values.Fault.{Fault as FaultKind}
use Rattle.thor_value.specs.declared.values.Answer.{Answer}
use Rattle.thor_value.specs.declared.values.Answer.TheVariants.{Ints, Fault}
use Rattle.serial_model.specs.declared.entries.Did.{Did}
use Rattle.serial_model.specs.declared.outcomes.Ended.{Ended}
use Rattle.serial_model.specs.declared.outcomes.ItemOutcome.{ItemOutcome}
use Rattle.serial_model.specs.declared.outcomes.ItemOutcome.TheVariants.{Done, Upgraded, Faulted, Refused, Unknown}
use Rattle.report_text.specs.Fits.{FitsTs, FitsOref, FitsWho, FitsInts, FitsOutcome, FitsAnswer}
use Rattle.report_text.specs.Report.{report_text}

-- the number of tries as the report tells it: 0 where the item's line has none
abbrev pub shown_tries : ℕ → ItemOutcome → ℕ
shown_tries tries (Done ts answer) = tries
shown_tries tries (Upgraded ts number) = tries
shown_tries tries (Faulted ts fault) = tries
shown_tries tries (Refused cause) = tries
shown_tries tries (Unknown tx) = 0

-- what the report tells of an item: all but the tries of an unknown one
abbrev pub shown_item : Ended → Ended
shown_item e = record e { tries = shown_tries e.tries e.outcome }

-- what the report tells of an entry: all but the item of the script that it performs
pub record Shown : Type 0 where
  pub ts : Ts
  pub who : Who
  pub number : ℕ
  pub fresh : List Oref
  pub answer : Answer

-- an entry as the report tells it
abbrev pub shown_entry : Did → Shown
shown_entry d = record { ts = d.ts; who = d.who; number = d.number; fresh = d.fresh; answer = d.answer }

-- an item's outcome with numbers of 64 bits
pub record FitsItem (e : Ended) : Type 0 where
  pub who : FitsWho e.who
  pub tries : e.tries < 2 ^ 64
  pub outcome : FitsOutcome e.outcome

-- An entry as a history has it: an upgrade, told by its number, has made no object and printed nothing, and an
-- entry with a fault has made no object.
pub record FitsEntry (d : Did) : Type 0 where
  pub upgrade : d.number ≢ 0 → (d.fresh ≡ []) × (d.answer ≡ Ints [])
  pub fault : (fault : FaultKind) → d.answer ≡ Fault fault → d.fresh ≡ []
  pub ts : FitsTs d.ts
  pub who : FitsWho d.who
  pub number : d.number < 2 ^ 64
  pub fresh : All FitsOref d.fresh
  pub answer : FitsAnswer d.answer

-- outcomes and a history of which the report's text tells all that it shows
pub record IsReported (ends : List Ended) (history : List Did) : Type 0 where
  pub items : All FitsItem ends
  pub entries : All FitsEntry history
  pub count : length history < 2 ^ 64

-- what the numbers of an entry's line are: those of the answer where it tells one
abbrev pub FitsEffect : ℕ → List Oref → Answer → Type 0
FitsEffect zero fresh (Ints values) = All FitsOref fresh × FitsInts values
FitsEffect zero fresh (Fault fault) = ⊤
FitsEffect (suc n) fresh answer = ⊤

-- an entry with numbers of 64 bits, as far as its line tells them
pub record FitsLine (d : Did) : Type 0 where
  pub ts : FitsTs d.ts
  pub who : FitsWho d.who
  pub number : d.number < 2 ^ 64
  pub effect : FitsEffect d.number d.fresh d.answer

-- outcomes and a history of whose numbers those that a report tells are of 64 bits
pub record FitsReport (ends : List Ended) (history : List Did) : Type 0 where
  pub items : All FitsItem ends
  pub lines : All FitsLine history
  pub count : length history < 2 ^ 64

-- The text is the report of these outcomes and this history, and tells them: each report with this text shows the same.
pub record TellsReport (ends : List Ended) (history : List Did) (text : List ℕ) : Type 0 where
  pub printed : text ≡ report_text ends history
  pub reported : IsReported ends history
  pub only : (others : List Ended) → (other : List Did) → IsReported others other → text ≡ report_text others other
      → (map shown_item others ≡ map shown_item ends) × (map shown_entry other ≡ map shown_entry history)
