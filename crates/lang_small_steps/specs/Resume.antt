-- What is left of a run, as data: what it means, and the small steps that do it.
use Rattle.std.specs.Prelude.{◌≡◌, ℕ, ℤ, pos, zero, suc, if◌then◌else◌, nat_lt, ◌==◌, ◌+◌, List, [], ◌∷◌, ◌++◌, length, take, Option, Some, None, Err}
use Rattle.std.specs.Int.{int_wrapping_sub, w64}
use Rattle.thor_value.specs.declared.names.Oref.{Oref}
use Rattle.thor_value.specs.declared.values.Fault.TheVariants.{Steps, NullCall, Depth}
use Rattle.thor_value.specs.declared.values.Value.{Value}
use Rattle.thor_value.specs.declared.values.Value.TheVariants as value
use Rattle.class_defs.specs.Calls.{bound, call, call_object, owners_at}
use Rattle.class_defs.specs.Expressions.{combined, this_value, values_from}
use Rattle.class_defs.specs.Kinds.{literal_value, printed_as}
use Rattle.class_defs.specs.Objects.{assign_field, create, field_value, named_value, scope_at, touch}
use Rattle.class_defs.specs.Run.{meaning}
use Rattle.class_defs.specs.Statements.{assign_local, branch, block_of, declare, holds, in_order, repeat, turn, unless_returned}
use Rattle.class_defs.specs.Steps.{World, Action, ◌>>=◌, ◌>>◌, pure, fail, change, step, beginning, number}
use Rattle.class_defs.specs.Types.{method_of, type_named, type_of}
use Rattle.class_defs.specs.declared.classes.Method.{Method}
use Rattle.class_defs.specs.declared.expressions.Expr.{Expr, out-Expr}
use Rattle.class_defs.specs.declared.expressions.Expr.TheOpen.{Expr-F}
use Rattle.lang_small_steps.specs.declared.frames.Doing.{Doing}
use Rattle.lang_small_steps.specs.declared.frames.Doing.TheVariants as doing
use Rattle.lang_small_steps.specs.declared.frames.Frame.{Frame}
use Rattle.lang_small_steps.specs.declared.frames.Frame.TheVariants as frame
use Rattle.class_defs.specs.declared.limits.TheConstants.{DEPTH_LIMIT}
use Rattle.class_defs.specs.declared.machine.Flow.{Flow}
use Rattle.class_defs.specs.declared.machine.Flow.TheVariants.{Next, Returned}
use Rattle.class_defs.specs.declared.machine.Local.{Local}
use Rattle.class_defs.specs.declared.machine.Machine.{Machine}
use Rattle.class_defs.specs.declared.machine.Receiver.{Receiver}
use Rattle.class_defs.specs.declared.machine.Stop.TheVariants as stop
use Rattle.class_defs.specs.declared.statements.Stmt.{Stmt, out-Stmt}
use Rattle.class_defs.specs.declared.statements.Stmt.TheOpen.{Stmt-F}
use Rattle.class_defs.specs.declared.types.ExprType.{ExprType}
use Rattle.class_defs.specs.declared.types.ExprType.TheVariants as type

-- what is left to do: what is done next, and the frames behind it, the top first
pub record Left : Type 0 where
  pub doing : Doing
  pub stack : List Frame

-- a value counts as returned
abbrev pub giving : Action Value → Action Flow
giving p = p >>= (λ v. pure (Returned v))

-- the value that was given
abbrev pub given : Flow → Value
given (Returned v) = v
given Next = value.Null

abbrev pub taken : List Value → Flow → List Value
taken done Next = done
taken done (Returned v) = done ++ v ∷ []

-- the result of a body, by its declared type
abbrev pub ended : ExprType → Flow → Value
ended t (Returned v) = v
ended t Next = beginning t

abbrev pub value_in : World → ℕ → Expr → Action Value
value_in w n = (meaning w n).value_of

abbrev pub block_in : World → ℕ → List Stmt → Action Flow
block_in w n = block_of (meaning w n).execute

abbrev pub shorten : ℕ → Machine → Machine
shorten k n = record n { locals = take k n.locals }

abbrev pub inside : World → Receiver → Method → List Value → Machine → Machine
inside w this method arguments n = record n { depth = n.depth + 1; this = Some this; locals = bound w.schema.classes method.parameters arguments }

abbrev pub outside : ℕ → Option Receiver → List Local → Machine → Machine
outside depth this locals n = record n { depth = depth; this = this; locals = locals }

abbrev pub print : Value → Machine → Machine
print v m = record m { printed = m.printed ++ printed_as v }

abbrev pub negated : Value → Value
negated v = value.Int (int_wrapping_sub w64 (pos 0) (number v))

-- what a frame does with what it is given
abbrev pub resumed_frame : World → Frame → Flow → Action Flow
resumed_frame w frame.Negate g = pure (Returned (negated (given g)))
resumed_frame w (frame.Right n o e) g = value_in w n e >>= (λ b. pure (Returned (combined o (given g) b)))
resumed_frame w (frame.Combine o a) g = pure (Returned (combined o a (given g)))
resumed_frame w (frame.Callee n t name es) g = giving (values_from w (value_in w n) (block_in w n) [] es >>= (λ vs. call w (block_in w n) t (given g) name vs))
resumed_frame w (frame.Arguments n t r name done es) g = giving (values_from w (value_in w n) (block_in w n) (taken done g) es >>= (λ vs. call w (block_in w n) t r name vs))
resumed_frame w (frame.BodyEnd d this ls t) g = change (outside d this ls) >> pure (Returned (ended t g))
resumed_frame w (frame.Declare t name) g = change (declare t name (given g)) >> pure Next
resumed_frame w (frame.Assign name) g = change (assign_local name (given g)) >> pure Next
resumed_frame w (frame.FieldAssign name) g = change (assign_field w name (given g)) >> pure Next
resumed_frame w frame.Return g = pure (Returned (given g))
resumed_frame w (frame.Branch n b) g = branch w (value_in w n) (block_in w n) (given g) (block_in w n b) (pure Next)
resumed_frame w (frame.Branches n b c) g = branch w (value_in w n) (block_in w n) (given g) (block_in w n b) (block_in w n c)
resumed_frame w frame.Print g = change (print (given g)) >> pure Next
resumed_frame w frame.Discard g = pure Next
resumed_frame w (frame.Rest n ss) g = unless_returned g (in_order (meaning w n).execute ss)
resumed_frame w (frame.BlockEnd k) g = change (shorten k) >> pure g
resumed_frame w (frame.Test n t c b) g = turn w (value_in w n) (block_in w n) (given g) b (repeat w (value_in w n) (block_in w n) t c b)
resumed_frame w (frame.Again n t c b) g = unless_returned g (repeat w (value_in w n) (block_in w n) t c b)

abbrev pub resume : World → List Frame → Flow → Action Flow
resume w [] g = pure g
resume w (f ∷ fs) g = resumed_frame w f g >>= resume w fs

abbrev pub does : World → Doing → Action Flow
does w (doing.Evaluate n e) = giving (value_in w n e)
does w (doing.Execute n s) = (meaning w n).execute s
does w (doing.Create c at) = giving (create w c at)
does w (doing.Enter n c x name vs) = giving (call_object w (block_in w n) c x name vs)
does w (doing.Give g) = pure g

-- what is left, as an action
abbrev pub rest_of : World → Left → Action Flow
rest_of w l = does w l.doing >>= resume w l.stack

-- ---- small steps

abbrev pub next : Doing → List Frame → Action Left
next d fs = pure (record { doing = d; stack = fs })

abbrev pub give : Flow → List Frame → Action Left
give g fs = next (doing.Give g) fs

abbrev pub start : World → ℕ → Expr-F Expr → List Frame → Action Left
start w n (Expr-F.Literal v line) fs = give (Returned (literal_value v)) fs
start w n (Expr-F.Null line) fs = give (Returned value.Null) fs
start w n (Expr-F.This line) fs = λ m. give (Returned (this_value m.this)) fs m
start w n (Expr-F.Field name) fs = λ m. give (Returned (field_value w m name.text)) fs m
start w n (Expr-F.Variable name) fs = λ m. give (Returned (named_value w.schema m name.text)) fs m
start w n (Expr-F.New class at) fs = next (doing.Create class.text at) fs
start w n (Expr-F.Parens inner line) fs = next (doing.Evaluate n inner) fs
start w n (Expr-F.Negate operand line) fs = next (doing.Evaluate n operand) (frame.Negate ∷ fs)
start w n (Expr-F.Binary o left right line) fs = next (doing.Evaluate n left) (frame.Right n o right ∷ fs)
start w n (Expr-F.Call receiver method arguments) fs = λ m. next (doing.Evaluate n receiver) (frame.Callee n (type_of (scope_at w.schema m) receiver) method.text arguments ∷ fs) m

abbrev pub begin : World → ℕ → Stmt-F Stmt → List Frame → Action Left
begin w n (Stmt-F.Var t name line e) fs = next (doing.Evaluate n e) (frame.Declare (type_named w.schema.classes t) name.text ∷ fs)
begin w n (Stmt-F.Assign name line e) fs = next (doing.Evaluate n e) (frame.Assign name.text ∷ fs)
begin w n (Stmt-F.FieldAssign field line e) fs = next (doing.Evaluate n e) (frame.FieldAssign field.text ∷ fs)
begin w n (Stmt-F.Return e) fs = next (doing.Evaluate n e) (frame.Return ∷ fs)
begin w n (Stmt-F.If c b) fs = next (doing.Evaluate n c) (frame.Branch n b ∷ fs)
begin w n (Stmt-F.IfElse c b d) fs = next (doing.Evaluate n c) (frame.Branches n b d ∷ fs)
begin w n (Stmt-F.While c b) fs = next (doing.Evaluate n c) (frame.Test n 100000 c b ∷ fs)
begin w n (Stmt-F.Print e) fs = next (doing.Evaluate n e) (frame.Print ∷ fs)
begin w n (Stmt-F.Evaluate e) fs = next (doing.Evaluate n e) (frame.Discard ∷ fs)

abbrev pub open_block : ℕ → List Stmt → List Frame → Action Left
open_block n ss fs = λ m. give Next (frame.Rest n ss ∷ frame.BlockEnd (length m.locals) ∷ fs) m

abbrev pub open_body : World → ℕ → Receiver → Option Method → List Value → List Frame → Action Left
open_body w n this None vs fs = fail NullCall
open_body w n this (Some method) vs fs = λ m.
    (change (inside w this method vs) >> open_block n method.body (frame.BodyEnd m.depth m.this m.locals (type_named w.schema.classes method.result) ∷ fs)) m

abbrev pub open_as : World → ℕ → Receiver → ℕ → Option Method → List Value → List Frame → Action Left
open_as w n this found method vs fs = if found == this.class then open_body w n this method vs fs else fail NullCall

abbrev pub enters : World → ℕ → ℕ → Oref → List ℕ → List Value → List Frame → Action Left
enters w n c x name vs fs = λ m.
    let owners = owners_at w.schema.classes c x m in
    if nat_lt m.depth DEPTH_LIMIT
    then (touch w owners x >>= (λ found. open_as w n (record { oref = x; class = c; owners = owners }) found (method_of w.schema.classes c name) vs fs)) m
    else (Err (stop.Fault Depth), m)

-- the parts of a call are there
abbrev pub ready : ℕ → ExprType → Value → List ℕ → List Value → List Frame → Action Left
ready n (type.Class c) (value.Ref x) name vs fs = next (doing.Enter n c x name vs) fs
ready n (type.Class c) value.Null name vs fs = fail NullCall
ready n (type.Class c) (value.Int i) name vs fs = fail NullCall
ready n (type.Class c) (value.Text t) name vs fs = fail NullCall
ready n type.Int v name vs fs = fail NullCall
ready n type.Text v name vs fs = fail NullCall
ready n type.Null v name vs fs = fail NullCall
ready n type.Untold v name vs fs = fail NullCall

abbrev pub collect : ℕ → ExprType → Value → List ℕ → List Value → List Expr → List Frame → Action Left
collect n t r name vs [] fs = ready n t r name vs fs
collect n t r name vs (e ∷ es) fs = next (doing.Evaluate n e) (frame.Arguments n t r name vs es ∷ fs)

abbrev pub go_on : ℕ → List Stmt → Flow → List Frame → Action Left
go_on n ss (Returned v) fs = give (Returned v) fs
go_on n [] Next fs = give Next fs
go_on n (s ∷ ss) Next fs = next (doing.Execute n s) (frame.Rest n ss ∷ fs)

abbrev pub turned : ℕ → ℕ → Expr → List Stmt → Flow → List Frame → Action Left
turned n t c b (Returned v) fs = give (Returned v) fs
turned n zero c b Next fs = fail Steps
turned n (suc t) c b Next fs = step >> next (doing.Evaluate n c) (frame.Test n t c b ∷ fs)

abbrev pub pop : World → Frame → Flow → List Frame → Action Left
pop w frame.Negate g fs = give (Returned (negated (given g))) fs
pop w (frame.Right n o e) g fs = next (doing.Evaluate n e) (frame.Combine o (given g) ∷ fs)
pop w (frame.Combine o a) g fs = give (Returned (combined o a (given g))) fs
pop w (frame.Callee n t name es) g fs = collect n t (given g) name [] es fs
pop w (frame.Arguments n t r name done es) g fs = collect n t r name (taken done g) es fs
pop w (frame.BodyEnd d this ls t) g fs = change (outside d this ls) >> give (Returned (ended t g)) fs
pop w (frame.Declare t name) g fs = change (declare t name (given g)) >> give Next fs
pop w (frame.Assign name) g fs = change (assign_local name (given g)) >> give Next fs
pop w (frame.FieldAssign name) g fs = change (assign_field w name (given g)) >> give Next fs
pop w frame.Return g fs = give (Returned (given g)) fs
pop w (frame.Branch n b) g fs = if holds (given g) then open_block n b fs else give Next fs
pop w (frame.Branches n b c) g fs = if holds (given g) then open_block n b fs else open_block n c fs
pop w frame.Print g fs = change (print (given g)) >> give Next fs
pop w frame.Discard g fs = give Next fs
pop w (frame.Rest n ss) g fs = go_on n ss g fs
pop w (frame.BlockEnd k) g fs = change (shorten k) >> give g fs
pop w (frame.Test n t c b) g fs = if holds (given g) then open_block n b (frame.Again n t c b ∷ fs) else give Next fs
pop w (frame.Again n t c b) g fs = turned n t c b g fs

abbrev pub move : World → Doing → List Frame → Action Left
move w (doing.Evaluate zero e) fs = fail Steps
move w (doing.Evaluate (suc n) e) fs = step >> start w n (out-Expr e) fs
move w (doing.Execute zero s) fs = fail Steps
move w (doing.Execute (suc n) s) fs = step >> begin w n (out-Stmt s) fs
move w (doing.Create c at) fs = create w c at >>= (λ v. give (Returned v) fs)
move w (doing.Enter n c x name vs) fs = enters w n c x name vs fs
move w (doing.Give g) [] = give g []
move w (doing.Give g) (f ∷ fs) = pop w f g fs

-- one small step, and then what is left behind it
abbrev pub after_one : World → Left → Action Flow
after_one w l = move w l.doing l.stack >>= rest_of w
