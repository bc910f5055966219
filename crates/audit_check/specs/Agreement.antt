-- Agreement (this project's): what it means that a report is true of a script, and which of its lines is the first that isn't.
-- Legal histories and how they answer items are those of `serial_model`, by which `thor` promises its own reports.
use Rattle.std.specs.List.{AllByRecursion}
use Rattle.std.specs.Prelude.{◌≡◌, ◌+◌, ◌<◌, ℕ, zero, suc, List, [], ◌∷◌, length, take, Option, None, Some, Result, Ok, Err}
use Rattle.thor_value.specs.declared.values.Who.{Who}
use Rattle.serial_model.specs.History.{IsLegal}
use Rattle.serial_model.specs.Outcomes.{Answers, IsAnswered, Item, all_items}
use Rattle.serial_model.specs.declared.entries.Did.{Did}
use Rattle.serial_model.specs.declared.entries.What.{What}
use Rattle.serial_model.specs.declared.outcomes.Ended.{Ended}
use Rattle.serial_model.specs.declared.outcomes.ItemOutcome.{ItemOutcome}
use Rattle.serial_model.specs.declared.outcomes.ItemOutcome.TheVariants.{Done, Upgraded, Faulted, Refused, Unknown}
use Rattle.report_parse.specs.declared.report.Line.{Line}
use Rattle.report_parse.specs.declared.report.Report.{Report}
use Rattle.top_history_check.specs.Lines.{item_of}
use Rattle.audit_check.specs.declared.audited.Audited.{Audited}
use Rattle.audit_check.specs.declared.disagreement.AuditFault.{AuditFault}
use Rattle.audit_check.specs.declared.disagreement.AuditFault.TheVariants.{Disagrees, NoMemory}
use Rattle.audit_check.specs.declared.disagreement.Disagreement.{Disagreement}
use Rattle.audit_check.specs.declared.disagreement.Disagreement.TheVariants as line

-- ---- the lines of the history

-- the entry that a line tells, of this item
abbrev pub entry_of : Line → What → Did
entry_of l what = record { ts = l.ts; who = l.who; what = what; number = l.number; fresh = l.fresh; answer = l.answer }

abbrev pub with_entry : Line → Option What → Option (List Did) → Option (List Did)
with_entry l None behind = None
with_entry l (Some what) None = None
with_entry l (Some what) (Some ds) = Some (entry_of l what ∷ ds)

-- the history that lines tell, where each names an item of the clients
abbrev pub history_of : List (List What) → List Line → Option (List Did)
history_of clients [] = Some []
history_of clients (l ∷ ls) = with_entry l (item_of clients l.who) (history_of clients ls)

-- lines that tell a history of the script's items, which is legal from its store
pub record AreLegalLines (a : Audited) (lines : List Line) : Type 0 where
  pub history : List Did
  pub told : history_of a.clients lines ≡ Some history
  pub legal : IsLegal a.schemas history a.opened

-- ---- the lines of the items

-- an upgrade that was committed has a number from 1 on
abbrev pub HasNumber : ItemOutcome → Type 0
HasNumber (Done ts ints) = Unit {0}
HasNumber (Upgraded ts number) = 0 < number
HasNumber (Faulted ts fault) = Unit {0}
HasNumber (Refused cause) = Unit {0}
HasNumber (Unknown tx) = Unit {0}

-- behind an item's entry, the entries of the same client are of items with greater numbers
abbrev pub IsInOrder : List Did → Who → Type 0
IsInOrder [] who = Unit {0}
IsInOrder (d ∷ ds) who = (d.who ≡ who → AllByRecursion (λ e. d.who.client ≡ e.who.client → d.who.index < e.who.index) ds) × IsInOrder ds who

-- The line of an item is right: it is that item's, the history has of the item what the line says, and has it in its client's
-- order.
pub record IsRight (history : List Did) (item : Item) (e : Ended) : Type 0 where
  pub of_item : e.who ≡ item.who
  pub answered : IsAnswered history item e.outcome
  pub numbered : HasNumber e.outcome
  pub in_order : IsInOrder history item.who

-- The place, from 0, of the first line that isn't right, or that is one too many; or that behind the last line, where there are
-- more items.
abbrev pub IsFirstWrong : List Did → List Item → List Ended → ℕ → Type 0
IsFirstWrong history [] [] place = ⊥
IsFirstWrong history [] (e ∷ es) place = place ≡ 0
IsFirstWrong history (i ∷ is) [] place = place ≡ 0
IsFirstWrong history (i ∷ is) (e ∷ es) zero = ¬ IsRight history i e
IsFirstWrong history (i ∷ is) (e ∷ es) (suc place) = IsRight history i e × IsFirstWrong history is es place

-- ---- the report

-- The report is true of the script: its lines tell one legal serial history of the script's items, which answers each of them
-- once, as its line says, and each client's in its order.
pub record Agrees (a : Audited) (r : Report) : Type 0 where
  pub history : List Did
  pub told : history_of a.clients r.lines ≡ Some history
  pub legal : IsLegal a.schemas history a.opened
  pub answers : Answers history (all_items a.clients) r.ended
  pub numbered : AllByRecursion (λ e. HasNumber e.outcome) r.ended

-- The first line of the history, counted from 1, with which the lines up to it are no legal history of the script's items.
pub record IsFirstEntry (a : Audited) (lines : List Line) (index : ℕ) : Type 0 where
  pub place : ℕ
  pub index_is : index ≡ place + 1
  pub within : place < length lines
  pub before : AreLegalLines a (take place lines)
  pub with_it : ¬ AreLegalLines a (take (place + 1) lines)

-- The history is legal, and this is the first line of an item, counted from 1, that is wrong.
pub record IsFirstItem (a : Audited) (r : Report) (index : ℕ) : Type 0 where
  pub history : List Did
  pub told : history_of a.clients r.lines ≡ Some history
  pub legal : IsLegal a.schemas history a.opened
  pub place : ℕ
  pub index_is : index ≡ place + 1
  pub wrong : IsFirstWrong history (all_items a.clients) r.ended place

-- where the report first disagrees with the script: in its history; and where that is legal, in the lines of its items
abbrev pub IsFirstDisagreement : Audited → Report → Disagreement → Type 0
IsFirstDisagreement a r (line.Entry index) = IsFirstEntry a r.lines index
IsFirstDisagreement a r (line.Item index) = IsFirstItem a r index

-- An audit answers that the report agrees, or where it first doesn't. Want of memory says nothing.
abbrev pub Audits : Audited → Report → Result (Unit {0}) AuditFault → Type 0
Audits a r (Ok done) = Agrees a r
Audits a r (Err (Disagrees at)) = IsFirstDisagreement a r at
Audits a r (Err NoMemory) = Unit {0}
