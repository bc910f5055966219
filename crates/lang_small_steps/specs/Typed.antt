-- Methods with the types that their words name, and what their parameters are bound to.
use Rattle.std.specs.Prelude.{◌≡◌, ℕ, ◌+◌, List, [], ◌∷◌, map, Option, slice_get, unwrap_or}
use Rattle.thor_value.specs.declared.values.Value.{Value}
use Rattle.class_defs.specs.Steps.{beginning}
use Rattle.class_defs.specs.Types.{type_named}
use Rattle.class_defs.specs.declared.classes.Class.{Class}
use Rattle.class_defs.specs.declared.classes.Method.{Method}
use Rattle.class_defs.specs.declared.classes.Parameter.{Parameter}
use Rattle.class_defs.specs.declared.machine.Local.{Local}
use Rattle.class_defs.specs.declared.types.ExprType.{ExprType}
use Rattle.lang_small_steps.specs.declared.parameters.TypedParameter.{TypedParameter}

-- a method, and beside it its parameters with their types, and the type of what it returns
pub record TypedMethod : Type 0 where
  pub method : Method
  pub parameters : List TypedParameter
  pub result : ExprType

-- a parameter with the type that its word names among these classes
abbrev pub typed_parameter : List Class → Parameter → TypedParameter
typed_parameter classes p = record { declared = p; kind = type_named classes p.type_name }

-- a method with the types that its words name among these classes
abbrev pub typed : List Class → Method → TypedMethod
typed classes m = record { method = m; parameters = map (typed_parameter classes) m.parameters; result = type_named classes m.result }

-- the types beside a method are those that its words name among these classes
abbrev pub IsTyped : List Class → TypedMethod → Type 0
IsTyped classes m = (m.parameters ≡ map (typed_parameter classes) m.method.parameters) × (m.result ≡ type_named classes m.method.result)

-- a parameter with its argument; where that is missing it begins as a field does
abbrev pub local_of : TypedParameter → Option Value → Local
local_of p v = record { name = p.declared.name.text; kind = p.kind; value = unwrap_or v (beginning p.kind) }

-- parameters, the first of which has the place n, each with the argument at its place
abbrev pub locals_from : ℕ → List TypedParameter → List Value → List Local
locals_from n [] vs = []
locals_from n (p ∷ ps) vs = local_of p (slice_get vs n) ∷ locals_from (n + 1) ps vs
