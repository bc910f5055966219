-- Words of the laws on runs: over which objects an action goes, and that it had those that it needs.
use Rattle.std.specs.Prelude.{Option, Result, Ok, Err}
use Rattle.thor_value.specs.declared.names.Oref.{Oref}
use Rattle.class_defs.specs.Steps.{World}
use Rattle.class_defs.specs.Touched.{IsNoNeed}
use Rattle.class_defs.specs.declared.machine.Stop.{Stop}
use Rattle.class_defs.specs.declared.store.Object.{Object}
use Rattle.class_defs.specs.declared.store.Schema.{Schema}

-- the world of these objects
abbrev pub over : Schema → (Oref → Option Object) → World
over schema at_hand = record { schema = schema; at_hand = at_hand }

-- the action didn't stop because an object isn't at hand
abbrev pub Ended : {A : Type 0} → Result A Stop → Type 0
Ended (Ok a) = Unit {0}
Ended (Err s) = IsNoNeed s
