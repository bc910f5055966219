-- What a report or a summary tells of a run (this project's).
use Rattle.std.specs.List.{list_all, list_any}
use Rattle.std.specs.Prelude.{◌≡◌, ◌==◌, ◌&&◌, ℕ, ℤ, Bool, true, false, not, List, [], ◌∷◌, is_some, length, map}
use Rattle.class_defs.specs.Epochs.{classes_of}
use Rattle.class_defs.specs.declared.store.Plain.{Plain}
use Rattle.class_defs.specs.declared.store.Schemas.{Schemas}
use Rattle.report_text.specs.Report.{report_text}
use Rattle.report_text.specs.Shown.{TellsReport}
use Rattle.report_summary.specs.Summary.{accounts_sum, summary_text}
use Rattle.script_parse.specs.declared.script.Script.{Script}
use Rattle.serial_model.specs.History.{IsLegal, after}
use Rattle.serial_model.specs.Outcomes.{Answers, all_items}
use Rattle.serial_model.specs.declared.entries.Did.{Did}
use Rattle.serial_model.specs.declared.entries.What.{What}
use Rattle.serial_model.specs.declared.outcomes.Cause.{Cause}
use Rattle.base_reasons.specs.declared.reason.Reason.TheVariants as reasons
use Rattle.serial_model.specs.declared.outcomes.Cause.TheVariants as cause
use Rattle.serial_model.specs.declared.outcomes.Ended.{Ended}
use Rattle.serial_model.specs.declared.outcomes.ItemOutcome.{ItemOutcome}
use Rattle.serial_model.specs.declared.outcomes.ItemOutcome.TheVariants.{Done, Upgraded, Faulted, Refused, Unknown}
use Rattle.top_history_check.specs.Lines.{line_of}
use Rattle.top_history_check.specs.declared.assembling.Line.{Line}
use Rattle.top_reply.specs.Replies.{run_reply}
use Rattle.top_reply.specs.declared.form.Form.{Form}
use Rattle.top_reply.specs.declared.form.Form.TheVariants as form
use Rattle.top_reply.specs.declared.reply.Reply.{Reply}
use Rattle.top_reply.specs.declared.running.Running.{Running}
use Rattle.top_reply.specs.declared.running.Running.TheVariants.{InTurn, OnThreads}

-- whether an item was done or ended in a fault
abbrev pub is_finished_as : ItemOutcome → Bool
is_finished_as (Done ts ints) = true
is_finished_as (Upgraded ts number) = true
is_finished_as (Faulted ts f) = true
is_finished_as (Refused cause) = false
is_finished_as (Unknown tx) = false

abbrev pub is_finished : Ended → Bool
is_finished e = is_finished_as e.outcome

-- ---- a client that is alone

-- a client has items
abbrev pub is_busy : List What → Bool
is_busy [] = false
is_busy (item ∷ items) = true

-- client 1 alone has items
abbrev pub is_alone : List (List What) → Bool
is_alone [] = true
is_alone (client ∷ others) = not (list_any is_busy others)

-- The script opens a fresh store for one client, which has no other beside it and no event between its steps.
abbrev pub runs_alone : Script → Bool
runs_alone script = is_some script.setup && (is_alone script.clients && length script.events == 0)

-- Why an item of such a client may be refused: by a disk that fails or gives other bytes than were written, or at a limit.
-- Nobody else wrote, upgraded or committed.
abbrev pub can_come_alone : Cause → Bool
can_come_alone (cause.Missing oref) = true
can_come_alone (cause.Down repo) = true
can_come_alone (cause.Reason (reasons.Full limit)) = true
can_come_alone (cause.Reason reasons.ClockEnd) = true
can_come_alone cause.Calls = true
can_come_alone (cause.Reason (reasons.Stale oref place)) = false
can_come_alone (cause.Reason (reasons.Earlier tx oref)) = false
can_come_alone (cause.Reason (reasons.Later tx oref)) = false
can_come_alone (cause.Reason (reasons.TooOld threshold)) = false
can_come_alone (cause.Reason (reasons.Epoch n)) = false
can_come_alone (cause.Reason (reasons.Blocked tx)) = false
can_come_alone (cause.Reason (reasons.Gone session)) = false

-- How often an item of such a client may have been tried that isn't refused: once, where events are performed one after the
-- other. On threads the clock may have refused it before, as one that gives too late a time once.
abbrev pub may_be_tried : Running → ℕ → Bool
may_be_tried InTurn tries = tries == 1
may_be_tried OnThreads tries = true

-- how an item of such a client ends: at its first try, or refused so, or its outcome is unknown
abbrev pub ends_at_once_as : Running → ℕ → ItemOutcome → Bool
ends_at_once_as running tries (Done ts ints) = may_be_tried running tries
ends_at_once_as running tries (Upgraded ts number) = may_be_tried running tries
ends_at_once_as running tries (Faulted ts f) = may_be_tried running tries
ends_at_once_as running tries (Refused cause) = can_come_alone cause
ends_at_once_as running tries (Unknown tx) = true

abbrev pub ends_at_once : Running → Ended → Bool
ends_at_once running e = ends_at_once_as running e.tries e.outcome

-- ---- a run

-- what the accounts are together in a store, under the classes of its epoch
abbrev pub sum_in : Schemas → Plain → ℤ
sum_in schemas store = accounts_sum (classes_of schemas store.epoch) store

-- The text of a run: the report of its outcomes and its history, or their summary, with the sum of the accounts in the store
-- behind the history.
abbrev pub run_text : Form → Schemas → Plain → List Ended → List Did → List ℕ
run_text form.Report schemas store ended history = report_text ended history
run_text form.Summary schemas store ended history = summary_text ended (sum_in schemas (after schemas history store))

-- A report tells its outcomes and its history: no other ones that are shown have this text. Of a summary nothing is said.
abbrev pub TellsAs : Form → List Ended → List Did → List ℕ → Type 0
TellsAs form.Report ended history text = TellsReport ended history text
TellsAs form.Summary ended history text = Unit {0}

-- The text is that of outcomes and a history. The history is one serial history from the store: its timestamps strictly
-- rise, each entry gives the answer that its run gives on the store behind those before it, and upgrades transform all
-- objects at their place. The outcomes are answered by it, each item's once and each client's in its order.
pub record IsRun (running : Running) (form : Form) (schemas : Schemas) (store : Plain) (script : Script) (finished : Bool) (text : List ℕ) : Type 0 where
  pub history : List Did
  pub ended : List Ended
  pub legal : IsLegal schemas history store
  pub answers : Answers history (all_items script.clients) ended
  pub at_once : runs_alone script ≡ true → list_all (ends_at_once running) ended ≡ true
  pub finished_is : finished ≡ list_all is_finished ended
  pub written_out : text ≡ run_text form schemas store ended history
  pub tells : TellsAs form ended history text

-- the reply tells a run in this form
abbrev pub IsReported : Running → Form → Schemas → Plain → Script → Reply → Type 0
IsReported running form schemas store script r = (finished : Bool) × ((text : List ℕ) × ((r ≡ run_reply form finished text) × IsRun running form schemas store script finished text))

-- ---- a run of which the lines are known

-- The text is that of a run whose history has these lines: they are its entries, without the items that these performed.
pub record IsRunWith (lines : List Line) (running : Running) (form : Form) (schemas : Schemas) (store : Plain) (script : Script) (finished : Bool) (text : List ℕ) : Type 0 where
  pub run : IsRun running form schemas store script finished text
  pub has : map line_of run.history ≡ lines

-- the reply tells such a run in this form
abbrev pub IsReportedWith : List Line → Running → Form → Schemas → Plain → Script → Reply → Type 0
IsReportedWith lines running form schemas store script r = (finished : Bool) × ((text : List ℕ) × ((r ≡ run_reply form finished text) × IsRunWith lines running form schemas store script finished text))
