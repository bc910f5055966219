-- What the code's functions do, said by the actions of a run.
use Rattle.std.specs.Prelude.{◌≡◌, Result, Ok, Err}
use Rattle.class_defs.specs.declared.machine.Machine.{Machine}
use Rattle.class_defs.specs.declared.machine.Stop.{Stop}
use Rattle.method_eval.specs.declared.halt.Halt.{Halt}
use Rattle.method_eval.specs.declared.halt.Halt.TheVariants.{Stopped, NoMemory}

-- what the function answered and the state that it left are those of the action, unless memory ran out
abbrev pub Does : {A : Type 0} → Result A Halt → Machine → Result A Stop × Machine → Type 0
Does (Ok a) new outcome = outcome ≡ (Ok a, new)
Does (Err (Stopped s)) new outcome = outcome ≡ (Err s, new)
Does (Err NoMemory) new outcome = Unit {0}
