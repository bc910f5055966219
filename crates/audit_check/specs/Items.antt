-- What the code that compares the lines of the items with the history says on its way.
use Rattle.std.specs.Ordering.{nat_cmp}
use Rattle.std.specs.Prelude.{◌≡◌, ◌+◌, ◌<◌, ℕ, IsTrue, List, [], ◌∷◌, Option, None, Some, Result, Ok, Err, length, slice_get, take, unwrap_or}
use Rattle.thor_value.specs.FiniteMap.{Map, get}
use Rattle.thor_value.specs.declared.values.Who.{Who}
use Rattle.serial_model.specs.Outcomes.{Item}
use Rattle.serial_model.specs.declared.entries.Did.{Did}
use Rattle.serial_model.specs.declared.entries.What.{What}
use Rattle.serial_model.specs.declared.outcomes.Ended.{Ended}
use Rattle.serial_model.specs.declared.outcomes.ItemOutcome.{ItemOutcome}
use Rattle.top_history_check.specs.Answered.{Tells}
use Rattle.top_history_check.specs.Places.{key}
use Rattle.audit_check.specs.Agreement.{HasNumber, IsFirstWrong, IsRight}
use Rattle.audit_check.specs.declared.disagreement.AuditFault.{AuditFault}
use Rattle.audit_check.specs.declared.disagreement.AuditFault.TheVariants.{Disagrees, NoMemory}
use Rattle.audit_check.specs.declared.disagreement.Disagreement.TheVariants as line
use Rattle.audit_check.specs.declared.standing.Standing.{Standing}
use Rattle.audit_check.specs.declared.standing.Standing.TheVariants.{Once, Twice}

-- the items of a client, counted from 0
abbrev pub items_at : List (List What) → ℕ → List What
items_at clients client = unwrap_or (slice_get clients client) []

-- the entry, where there is one, is what the outcome says
abbrev pub IsOf : Option Did → ItemOutcome → Type 0
IsOf None outcome = ⊥
IsOf (Some d) outcome = Tells (Some d) outcome × HasNumber outcome

-- what stands of an item is what the outcome says
abbrev pub IsSaid : List Did → Option Standing → ItemOutcome → Type 0
IsSaid history None outcome = Tells None outcome
IsSaid history (Some (Once place in_order)) outcome = IsTrue in_order × IsOf (slice_get history place) outcome
IsSaid history (Some Twice) outcome = ⊥

-- the line is of this item, and what stands of it is what the line says
abbrev pub IsRightBy : Map nat_cmp Standing → List Did → Who → Ended → Type 0
IsRightBy standings history who e = (e.who ≡ who) × IsSaid history (get standings (key who)) e.outcome

-- the lines are those of the items, each right
abbrev pub AreRight : List Did → List Item → List Ended → Type 0
AreRight history [] [] = Unit {0}
AreRight history [] (e ∷ es) = ⊥
AreRight history (i ∷ is) [] = ⊥
AreRight history (i ∷ is) (e ∷ es) = IsRight history i e × AreRight history is es

-- the lines begin with those of the items, each right, or the first that isn't is at this place
abbrev pub AreRightOr : List Did → List Item → List Ended → Option ℕ → Type 0
AreRightOr history items ended None = AreRight history items (take (length items) ended)
AreRightOr history items ended (Some place) = (place < length items) × IsFirstWrong history items ended place

-- the lines of the items, and as many as the items are, those behind them too, or the first that is wrong
abbrev pub AreRightAll : List Did → List Item → List Ended → Result (Unit {0}) AuditFault → Type 0
AreRightAll history items ended (Ok done) = AreRight history items ended
AreRightAll history items ended (Err (Disagrees (line.Entry index))) = ⊥
AreRightAll history items ended (Err (Disagrees (line.Item index))) = (place : ℕ) × (index ≡ place + 1) × IsFirstWrong history items ended place
AreRightAll history items ended (Err NoMemory) = Unit {0}
