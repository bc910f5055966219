-- The repositories of a run with the histories that its traces tell, and what of them is reported.
use Rattle.law_atomic_commit.specs.Several.{Several}
use Rattle.log_entries.specs.declared.entry.Entry.{Entry}
use Rattle.repo_trace.specs.declared.trace.Trace.{Trace}
use Rattle.serial_model.specs.declared.entries.Did.{Did}
use Rattle.serial_model.specs.declared.entries.What.TheVariants.{Tx}
use Rattle.serial_model.specs.declared.entries.What.{What}
use Rattle.spec_history.specs.History.{Base}
use Rattle.std.specs.List.{slice_get}
use Rattle.std.specs.Prelude.{List, None, Option, Some, [], length, min, unwrap_or, ℕ}
use Rattle.thor_value.specs.declared.values.Who.{Who}
use Rattle.top_history_check.specs.Lines.{item_of, line_of}
use Rattle.top_history_check.specs.declared.assembling.Line.{Line}

abbrev pub history_in : Option Trace → List Entry
history_in None = []
history_in (Some t) = t.history

-- The repositories of a run, with what each began with and the history that its trace tells.
abbrev pub several_of : (ℕ → Base) → List Trace → Several
several_of base traces = record { repos = length traces; base = base; history = λ r. history_in (slice_get traces r) }

-- an entry of the whole history as it is told: with a number as great as one of 32 bits can be
abbrev pub as_told : Did → Did
as_told d = record d { number = min d.number 4294967295 }

-- the same, without the item that it performed
abbrev pub told_line : Did → Line
told_line d = line_of (as_told d)

-- the item of a script that is somebody's, and a transaction without statements where it has none
abbrev pub performed : List (List What) → Who → What
performed clients who = unwrap_or (item_of clients who) (Tx [])
