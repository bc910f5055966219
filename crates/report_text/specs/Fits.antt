-- That numbers are of 64 bits, as those of every code type are. Std writes such a number with all its digits.
-- This project's.
use Rattle.std.specs.Prelude.{◌<◌, ◌^◌, ℤ, FitsSigned, List, All, ⊤}
use Rattle.std.specs.Int.{w64}
use Rattle.thor_value.specs.declared.names.Oref.{Oref}
use Rattle.thor_value.specs.declared.names.Ts.{Ts}
use Rattle.thor_value.specs.declared.values.Who.{Who}
use Rattle.thor_value.specs.declared.values.Answer.{Answer}
use Rattle.thor_value.specs.declared.values.Answer.TheVariants.{Ints, Fault}
use Rattle.serial_model.specs.declared.outcomes.Cause.{Cause}
use Rattle.serial_model.specs.declared.outcomes.Cause.TheVariants.{Missing, Down, Calls}
use Rattle.serial_model.specs.declared.outcomes.Cause.TheVariants as cause
use Rattle.base_reasons.specs.declared.reason.Reason.TheVariants.{Stale, Earlier, Later, TooOld, Epoch, Blocked, Gone, Full, ClockEnd}
use Rattle.serial_model.specs.declared.outcomes.ItemOutcome.{ItemOutcome}
use Rattle.serial_model.specs.declared.outcomes.ItemOutcome.TheVariants.{Done, Upgraded, Faulted, Refused, Unknown}

-- those of a timestamp
abbrev pub FitsTs : Ts → Type 0
FitsTs t = (t.time < 2 ^ 64) × (t.repo < 2 ^ 64) × (t.life < 2 ^ 64)

-- those of a name
abbrev pub FitsOref : Oref → Type 0
FitsOref x = (x.repo < 2 ^ 64) × (x.page < 2 ^ 64) × (x.slot < 2 ^ 64)

-- those of an item's name
abbrev pub FitsWho : Who → Type 0
FitsWho w = (w.client < 2 ^ 64) × (w.index < 2 ^ 64)

-- printed values
abbrev pub FitsInts : List ℤ → Type 0
FitsInts values = All (λ z. FitsSigned w64 z) values

-- those of a cause
abbrev pub FitsCause : Cause → Type 0
FitsCause (cause.Reason (Stale oref place)) = FitsOref oref × (place < 2 ^ 64)
FitsCause (cause.Reason (Earlier tx oref)) = FitsTs tx × FitsOref oref
FitsCause (cause.Reason (Later tx oref)) = FitsTs tx × FitsOref oref
FitsCause (cause.Reason (TooOld threshold)) = FitsTs threshold
FitsCause (cause.Reason (Epoch n)) = n < 2 ^ 64
FitsCause (cause.Reason (Blocked tx)) = FitsTs tx
FitsCause (cause.Reason (Gone session)) = session < 2 ^ 64
FitsCause (Missing oref) = FitsOref oref
FitsCause (Down repo) = repo < 2 ^ 64
FitsCause (cause.Reason (Full limit)) = limit < 2 ^ 64
FitsCause (cause.Reason ClockEnd) = ⊤
FitsCause Calls = ⊤

-- those of an outcome
abbrev pub FitsOutcome : ItemOutcome → Type 0
FitsOutcome (Done ts answer) = FitsTs ts × FitsInts answer
FitsOutcome (Upgraded ts number) = FitsTs ts × (number < 2 ^ 64)
FitsOutcome (Faulted ts fault) = FitsTs ts
FitsOutcome (Refused cause) = FitsCause cause
FitsOutcome (Unknown tx) = FitsTs tx

-- those of an answer
abbrev pub FitsAnswer : Answer → Type 0
FitsAnswer (Ints values) = FitsInts values
FitsAnswer (Fault fault) = ⊤
