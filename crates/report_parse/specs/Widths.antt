-- Numbers of the widths of their types: those that names, timestamps, values, causes, outcomes and answers can have.
-- This project's.
use Rattle.std.specs.Prelude.{◌<◌, ◌^◌, ℤ, FitsSigned, ⊤}
use Rattle.std.specs.List.{AllByRecursion}
use Rattle.std.specs.Int.{w64}
use Rattle.thor_value.specs.declared.names.Oref.{Oref}
use Rattle.thor_value.specs.declared.names.Ts.{Ts}
use Rattle.thor_value.specs.declared.values.Who.{Who}
use Rattle.thor_value.specs.declared.values.Answer.{Answer}
use Rattle.thor_value.specs.declared.values.Answer.TheVariants.{Ints, Fault}
use Rattle.serial_model.specs.declared.outcomes.Cause.{Cause}
use Rattle.serial_model.specs.declared.outcomes.Cause.TheVariants.{Missing, Down, Calls}
use Rattle.serial_model.specs.declared.outcomes.Cause.TheVariants as cause
use Rattle.base_reasons.specs.declared.reason.Reason.TheVariants.{Stale, Earlier, Later, TooOld, Epoch, Blocked, Gone, Full, ClockEnd}
use Rattle.serial_model.specs.declared.outcomes.ItemOutcome.{ItemOutcome}
use Rattle.serial_model.specs.declared.outcomes.ItemOutcome.TheVariants.{Done, Upgraded, Faulted, Refused, Unknown}

-- a timestamp
abbrev pub IsTs : Ts → Type 0
IsTs t = (t.time < 2 ^ 64) × (t.repo < 2 ^ 8) × (t.life < 2 ^ 32)

-- the name of an object
abbrev pub IsOref : Oref → Type 0
IsOref x = (x.repo < 2 ^ 8) × (x.page < 2 ^ 32) × (x.slot < 2 ^ 8)

-- the name of an item
abbrev pub IsWho : Who → Type 0
IsWho w = (w.client < 2 ^ 8) × (w.index < 2 ^ 32)

-- a printed value
abbrev pub IsInt : ℤ → Type 0
IsInt z = FitsSigned w64 z

-- a cause
abbrev pub IsCause : Cause → Type 0
IsCause (cause.Reason (Stale oref place)) = IsOref oref × (place < 2 ^ 64)
IsCause (cause.Reason (Earlier tx oref)) = IsTs tx × IsOref oref
IsCause (cause.Reason (Later tx oref)) = IsTs tx × IsOref oref
IsCause (cause.Reason (TooOld threshold)) = IsTs threshold
IsCause (cause.Reason (Epoch n)) = n < 2 ^ 32
IsCause (cause.Reason (Blocked tx)) = IsTs tx
IsCause (cause.Reason (Gone session)) = session < 2 ^ 32
IsCause (Missing oref) = IsOref oref
IsCause (Down repo) = repo < 2 ^ 8
IsCause (cause.Reason (Full limit)) = limit < 2 ^ 32
IsCause (cause.Reason ClockEnd) = ⊤
IsCause Calls = ⊤

-- an outcome
abbrev pub IsOutcome : ItemOutcome → Type 0
IsOutcome (Done ts answer) = IsTs ts × AllByRecursion IsInt answer
IsOutcome (Upgraded ts number) = IsTs ts × (number < 2 ^ 32)
IsOutcome (Faulted ts fault) = IsTs ts
IsOutcome (Refused cause) = IsCause cause
IsOutcome (Unknown tx) = IsTs tx

-- an answer
abbrev pub IsAnswer : Answer → Type 0
IsAnswer (Ints values) = AllByRecursion IsInt values
IsAnswer (Fault fault) = ⊤
