-- The objects that a view has at hand.
use Rattle.std.specs.Prelude.{ℕ, if◌then◌else◌, nat_lt, Option, Some, None}
use Rattle.thor_value.specs.FiniteMap.{Map, get}
use Rattle.thor_value.specs.Names.{oref_cmp}
use Rattle.thor_value.specs.declared.values.Obj.{Obj}
use Rattle.class_defs.specs.Applied.{number_of}
use Rattle.class_defs.specs.Objects.{new_object}
use Rattle.class_defs.specs.Steps as steps
use Rattle.class_defs.specs.Stored.{bare}
use Rattle.class_defs.specs.declared.store.Object.{Object}
use Rattle.class_defs.specs.declared.store.Schema.{Schema}
use Rattle.method_eval.specs.declared.world.World.{World}

-- an object that isn't due, as a run reads it
abbrev pub current : Schema → Option Obj → Option Object
current schema None = None
current schema (Some o) = if nat_lt o.ver (number_of schema.upgraded o.class) then None else Some (bare o)

-- what a run reads of objects at hand: those that aren't due
abbrev pub seen_in : Schema → Map oref_cmp Obj → steps.World
seen_in schema objects = record { schema = schema; at_hand = λ x. current schema (get objects x) }

-- the same, of what the code of an evaluation is handed
abbrev pub reading : World → steps.World
reading w = seen_in w.program.schema.now w.objects.now

-- an object of a class as it begins
abbrev pub new_of : Schema → ℕ → Object
new_of schema c = new_object (record { schema = schema; at_hand = λ x. None }) c
