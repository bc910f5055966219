-- What is left of an evaluation that goes by small steps, in the words of lang_small_steps, and what its functions do.
use Rattle.std.specs.Prelude.{◌≡◌, if◌then◌else◌, ℕ, Bool, true, false, List, [], ◌∷◌, map, Result, Ok, Err}
use Rattle.thor_value.specs.declared.values.Value.{Value}
use Rattle.class_defs.specs.Statements.{holds}
use Rattle.class_defs.specs.Steps.{World, Action}
use Rattle.class_defs.specs.declared.expressions.Expr.{Expr}
use Rattle.class_defs.specs.declared.machine.Flow.TheVariants as flow
use Rattle.class_defs.specs.declared.machine.Machine.{Machine}
use Rattle.class_defs.specs.declared.machine.Stop.{Stop}
use Rattle.class_defs.specs.declared.statements.Stmt.{Stmt}
use Rattle.lang_bounded_eval.specs.declared.frames.Moved.{Moved}
use Rattle.lang_bounded_eval.specs.declared.frames.Moved.TheVariants.{To, Ended}
use Rattle.lang_bounded_eval.specs.declared.frames.Next.{Next}
use Rattle.lang_bounded_eval.specs.declared.frames.Next.TheVariants as next
use Rattle.lang_bounded_eval.specs.declared.frames.Waiting.{Waiting}
use Rattle.lang_bounded_eval.specs.declared.frames.Waiting.TheVariants as waiting
use Rattle.method_eval.specs.declared.halt.Halt.{Halt}
use Rattle.method_eval.specs.declared.halt.Halt.TheVariants.{Stopped, NoMemory}
use Rattle.lang_small_steps.specs.Due.{IsOpen}
use Rattle.lang_small_steps.specs.Resume.{Left, give, move, open_block}
use Rattle.lang_small_steps.specs.declared.frames.Doing.{Doing}
use Rattle.lang_small_steps.specs.declared.frames.Doing.TheVariants as doing
use Rattle.lang_small_steps.specs.declared.frames.Frame.{Frame}
use Rattle.lang_small_steps.specs.declared.frames.Frame.TheVariants as frame

abbrev pub doing_of : Next → Doing
doing_of (next.Evaluate n e) = doing.Evaluate n e.now
doing_of (next.Execute n s) = doing.Execute n s.now
doing_of (next.Create class at) = doing.Create class.now at
doing_of (next.Enter n c x name vs) = doing.Enter n c x name.now vs
doing_of (next.Give g) = doing.Give g

abbrev pub frame_of : Waiting → Frame
frame_of waiting.Negate = frame.Negate
frame_of (waiting.Right n o e) = frame.Right n o e.now
frame_of (waiting.Combine o v) = frame.Combine o v
frame_of (waiting.Callee n t name es) = frame.Callee n t name.now es.now
frame_of (waiting.Arguments n t r name done es) = frame.Arguments n t r name.now done es.now
frame_of (waiting.BodyEnd d this ls t) = frame.BodyEnd d this ls t
frame_of (waiting.Declare t name) = frame.Declare t name.now
frame_of (waiting.Assign name) = frame.Assign name.now
frame_of (waiting.FieldAssign name) = frame.FieldAssign name.now
frame_of waiting.Return = frame.Return
frame_of (waiting.Branch n b) = frame.Branch n b.now
frame_of (waiting.Branches n b c) = frame.Branches n b.now c.now
frame_of waiting.Print = frame.Print
frame_of waiting.Discard = frame.Discard
frame_of (waiting.Rest n ss) = frame.Rest n ss.now
frame_of (waiting.BlockEnd k) = frame.BlockEnd k
frame_of (waiting.Test n t c b) = frame.Test n t c.now b.now
frame_of (waiting.Again n t c b) = frame.Again n t c.now b.now

-- the frames that wait, the top first
abbrev pub frames : List Waiting → List Frame
frames fs = map frame_of fs

abbrev pub left_of : Next → List Waiting → Left
left_of d fs = record { doing = doing_of d; stack = frames fs }

-- what is done next over the frames that are left is what the action gives, or why it stops
abbrev pub Moves : Result Next Halt → List Waiting → Machine → Result Left Stop × Machine → Type 0
Moves (Ok d) fs new outcome = outcome ≡ (Ok (left_of d fs), new)
Moves (Err (Stopped s)) fs new outcome = outcome ≡ (Err s, new)
Moves (Err NoMemory) fs new outcome = Unit {0}

-- a small step was taken, or nothing was left to do
abbrev pub Leaves : Result Moved Halt → List Waiting → Machine → World → Left → Machine → Type 0
Leaves (Ok (To d)) fs new w l m = IsOpen l.doing l.stack × (move w l.doing l.stack m ≡ (Ok (left_of d fs), new))
Leaves (Ok (Ended g)) fs new w l m = (l ≡ record { doing = doing.Give g; stack = [] }) × (new ≡ m)
Leaves (Err (Stopped s)) fs new w l m = move w l.doing l.stack m ≡ (Err s, new)
Leaves (Err NoMemory) fs new w l m = Unit {0}

-- the condition of a loop was given
abbrev pub tested : ℕ → ℕ → Expr → List Stmt → Value → List Frame → Action Left
tested n t c b v fs = if holds v then open_block n b (frame.Again n t c b ∷ fs) else give flow.Next fs

abbrev pub moved_to : Result Next Halt → Result Moved Halt
moved_to (Ok d) = Ok (To d)
moved_to (Err h) = Err h

-- whether a frame is of a block or a loop
abbrev pub in_block : Waiting → Bool
in_block (waiting.Rest n ss) = true
in_block (waiting.BlockEnd k) = true
in_block (waiting.Test n t c b) = true
in_block (waiting.Again n t c b) = true
in_block f = false

-- whether a frame waits for the first part of a statement
abbrev pub in_statement : Waiting → Bool
in_statement (waiting.Declare t name) = true
in_statement (waiting.Assign name) = true
in_statement (waiting.FieldAssign name) = true
in_statement waiting.Return = true
in_statement (waiting.Branch n b) = true
in_statement (waiting.Branches n b c) = true
in_statement waiting.Print = true
in_statement waiting.Discard = true
in_statement f = false
