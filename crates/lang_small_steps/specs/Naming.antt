-- Runs over just the names that they take.
use Rattle.std.specs.Prelude.{ℕ, List, Some, Result, Ok, Err}
use Rattle.thor_value.specs.declared.names.Oref.{Oref}
use Rattle.class_defs.specs.declared.machine.Flow.{Flow}
use Rattle.class_defs.specs.declared.machine.Machine.{Machine}
use Rattle.class_defs.specs.declared.machine.NameSupply.{NameSupply}
use Rattle.class_defs.specs.declared.machine.Stop.{Stop}
use Rattle.class_defs.specs.declared.machine.Stop.TheVariants as stop

-- just these names, and stand-in names behind them
abbrev pub just_names : List Oref → NameSupply
just_names ws = record { waiting = ws; stand_in = Some 0 }

-- the machine with just these names to take
abbrev pub with_names : List Oref → Machine → Machine
with_names ws m = record m { names = just_names ws }

-- the stop is no want of a name
abbrev pub NeedsNoName : Stop → Type 0
NeedsNoName (stop.Fault f) = Unit {0}
NeedsNoName (stop.Need x owners) = Unit {0}
NeedsNoName (stop.NeedName repo) = ⊥

-- the run didn't stop for want of a name
abbrev pub HadNames : Result Flow Stop → Type 0
HadNames (Ok flow) = Unit {0}
HadNames (Err s) = NeedsNoName s
