-- What the code's functions do, said by the actions of a run.
use Rattle.std.specs.Prelude.{◌≡◌, ℕ, Bool, true, false, if◌then◌else◌, List, ◌∷◌, Option, Some, None, Result, Ok, Err}
use Rattle.thor_value.specs.FiniteMap.{Map}
use Rattle.thor_value.specs.Names.{oref_cmp}
use Rattle.thor_value.specs.declared.values.Value.{Value}
use Rattle.class_defs.specs.Statements.{holds}
use Rattle.class_defs.specs.Steps.{Action, step}
use Rattle.class_defs.specs.declared.expressions.Expr.{Expr}
use Rattle.class_defs.specs.declared.expressions.Expr.TheOpen.{Expr-F}
use Rattle.class_defs.specs.declared.machine.Flow.TheVariants.{Next}
use Rattle.class_defs.specs.declared.machine.Machine.{Machine}
use Rattle.class_defs.specs.declared.machine.Stop.{Stop}
use Rattle.class_defs.specs.declared.machine.Stop.TheVariants.{Fault, Need, NeedName}
use Rattle.class_defs.specs.declared.statements.Stmt.{Stmt}
use Rattle.class_defs.specs.declared.store.Object.{Object}
use Rattle.method_eval.specs.declared.halt.Halt.{Halt}
use Rattle.method_eval.specs.declared.halt.Halt.TheVariants.{Stopped, NoMemory}
use Rattle.lang_small_steps.specs.Resume.{Left, give, open_block}
use Rattle.lang_small_steps.specs.declared.frames.Doing.{Doing}
use Rattle.lang_small_steps.specs.declared.frames.Frame.{Frame}
use Rattle.lang_small_steps.specs.declared.frames.Frame.TheVariants as frame

-- the state with these objects written
abbrev pub lifted : Map oref_cmp Object → Machine → Machine
lifted written m = record m { writes = written }

-- a step was taken, or was one too many
abbrev pub Stepped : Result (Unit {0}) Halt → Machine → Machine → Type 0
Stepped (Ok u) old new = step old ≡ (Ok u, new)
Stepped (Err (Stopped (Fault e))) old new = step old ≡ (Err (Fault e), new)
Stepped (Err (Stopped (Need x owners))) old new = ⊥
Stepped (Err (Stopped (NeedName repo))) old new = ⊥
Stepped (Err NoMemory) old new = Unit {0}

-- what is done next, over the frames that were left, is what the action gives; it needs no object and no name
abbrev pub Moves : Result Doing Halt → List Frame → Machine → Machine → Action Left → Type 0
Moves (Ok d) fs old new a = a old ≡ (Ok (record { doing = d; stack = fs }), new)
Moves (Err (Stopped (Fault e))) fs old new a = a old ≡ (Err (Fault e), new)
Moves (Err (Stopped (Need x owners))) fs old new a = ⊥
Moves (Err (Stopped (NeedName repo))) fs old new a = ⊥
Moves (Err NoMemory) fs old new a = Unit {0}

-- the condition of a loop was given
abbrev pub tested : ℕ → ℕ → Expr → List Stmt → Value → List Frame → Action Left
tested n t c b v fs = if holds v then open_block n b (frame.Again n t c b ∷ fs) else give Next fs

-- the name of the field that a node reads
abbrev pub field_read : Expr-F Expr → Option (List ℕ)
field_read (Expr-F.Literal v line) = None
field_read (Expr-F.Null line) = None
field_read (Expr-F.This line) = None
field_read (Expr-F.Field name) = Some name.text
field_read (Expr-F.Variable name) = None
field_read (Expr-F.New class at) = None
field_read (Expr-F.Parens inner line) = None
field_read (Expr-F.Negate operand line) = None
field_read (Expr-F.Binary o l r line) = None
field_read (Expr-F.Call receiver method arguments) = None

-- the name of the field that a frame assigns
abbrev pub field_assigned : Frame → Option (List ℕ)
field_assigned (frame.FieldAssign name) = Some name
field_assigned f = None

-- whether a frame is of a block or a loop
abbrev pub in_block : Frame → Bool
in_block (frame.Rest n ss) = true
in_block (frame.BlockEnd k) = true
in_block (frame.Test n t c b) = true
in_block (frame.Again n t c b) = true
in_block f = false

-- whether a frame waits for the first part of a statement
abbrev pub in_statement : Frame → Bool
in_statement (frame.Declare t name) = true
in_statement (frame.Assign name) = true
in_statement (frame.FieldAssign name) = true
in_statement frame.Return = true
in_statement (frame.Branch n b) = true
in_statement (frame.Branches n b c) = true
in_statement frame.Print = true
in_statement frame.Discard = true
in_statement f = false

-- what holds unless memory ran out
abbrev pub Holds : {A : Type 0} → Result A Halt → Type 0 → Type 0
Holds (Ok a) P = P
Holds (Err (Stopped s)) P = P
Holds (Err NoMemory) P = Unit {0}

-- what holds where an object or a name is needed
abbrev pub AtNeed : {A : Type 0} → Result A Halt → Type 0 → Type 0
AtNeed (Ok a) P = Unit {0}
AtNeed (Err (Stopped (Fault e))) P = Unit {0}
AtNeed (Err (Stopped (Need x owners))) P = P
AtNeed (Err (Stopped (NeedName repo))) P = P
AtNeed (Err NoMemory) P = Unit {0}

-- what is done next, over the frames that were left, or why the run stopped
abbrev pub Goes : Result Doing Halt → List Frame → Machine → Result Left Stop × Machine → Type 0
Goes (Ok d) fs new outcome = outcome ≡ (Ok (record { doing = d; stack = fs }), new)
Goes (Err (Stopped s)) fs new outcome = outcome ≡ (Err s, new)
Goes (Err NoMemory) fs new outcome = Unit {0}
