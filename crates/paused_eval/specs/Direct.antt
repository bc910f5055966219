-- An evaluation by plain recursion. Where it can't go on it says what is done next and which frames wait for that, and
-- leaves it to small steps.
use Rattle.std.specs.Prelude.{◌≡◌, ℕ, zero, suc, ◌+◌, ◌==◌, if◌then◌else◌, nat_lt, List, [], ◌∷◌, ◌++◌, length, Option, Some, None, Result, Ok, Err}
use Rattle.thor_value.specs.declared.names.Oref.{Oref}
use Rattle.thor_value.specs.declared.values.Fault.TheVariants.{Depth, NullCall}
use Rattle.thor_value.specs.declared.values.Value.{Value}
use Rattle.thor_value.specs.declared.values.Value.TheVariants as value
use Rattle.class_defs.specs.Calls.{owners_at}
use Rattle.class_defs.specs.Expressions.{combined, this_value}
use Rattle.class_defs.specs.Kinds.{literal_value}
use Rattle.class_defs.specs.Objects.{assign_field, field_value, named_value, scope_at, touch}
use Rattle.class_defs.specs.Statements.{assign_local, declare, holds}
use Rattle.class_defs.specs.Steps.{World}
use Rattle.class_defs.specs.Types.{method_of, type_named, type_of}
use Rattle.class_defs.specs.declared.classes.Method.{Method}
use Rattle.class_defs.specs.declared.expressions.Expr.{Expr, out-Expr}
use Rattle.class_defs.specs.declared.expressions.Expr.TheOpen.{Expr-F}
use Rattle.class_defs.specs.declared.expressions.Operator.{Operator}
use Rattle.class_defs.specs.declared.limits.TheConstants.{DEPTH_LIMIT, STEP_LIMIT}
use Rattle.class_defs.specs.declared.machine.Flow.{Flow}
use Rattle.class_defs.specs.declared.machine.Flow.TheVariants.{Next, Returned}
use Rattle.class_defs.specs.declared.machine.Machine.{Machine}
use Rattle.class_defs.specs.declared.machine.Receiver.{Receiver}
use Rattle.class_defs.specs.declared.machine.Stop.{Stop}
use Rattle.class_defs.specs.declared.machine.Stop.TheVariants as stop
use Rattle.class_defs.specs.declared.statements.Stmt.{Stmt, out-Stmt}
use Rattle.class_defs.specs.declared.statements.Stmt.TheOpen.{Stmt-F}
use Rattle.class_defs.specs.declared.store.Schema.{Schema}
use Rattle.class_defs.specs.declared.types.ExprType.{ExprType}
use Rattle.class_defs.specs.declared.types.ExprType.TheVariants as type
use Rattle.client_cache.specs.Copies.{Contents}
use Rattle.method_eval.specs.declared.halt.Halt.{Halt}
use Rattle.method_eval.specs.declared.halt.Halt.TheVariants as halt
use Rattle.method_eval.specs.declared.halt.Halt.TheVariants.{Stopped}
use Rattle.lang_small_steps.specs.Reaches.{over}
use Rattle.lang_small_steps.specs.Resume.{ended, inside, negated, outside, print, shorten}
use Rattle.lang_small_steps.specs.declared.frames.Doing.{Doing}
use Rattle.lang_small_steps.specs.declared.frames.Doing.TheVariants as doing
use Rattle.lang_small_steps.specs.declared.frames.Frame.{Frame}
use Rattle.lang_small_steps.specs.declared.frames.Frame.TheVariants as frame
use Rattle.paused_eval.specs.Begins.{first_part, waiting_frame}
use Rattle.paused_eval.specs.Copies.{at_hand}
use Rattle.paused_eval.specs.declared.unwound.Unwound.{Unwound}
use Rattle.paused_eval.specs.declared.unwound.Unwound.TheVariants.{Faulted, Later, NoMemory}

-- ---- what came of it

abbrev pub Outcome : Type 0 → Type 0
Outcome A = Result A Unwound × Machine

abbrev pub Direct : Type 0 → Type 0
Direct A = Machine → Outcome A

-- one frame more waits behind it
abbrev pub waiting : Frame → Unwound → Unwound
waiting f (Later d fs) = Later d (fs ++ f ∷ [])
waiting f (Faulted e) = Faulted e
waiting f NoMemory = NoMemory

-- what the function answered and the state that it left, unless memory ran out
abbrev pub Directs : {A : Type 0} → Result A Unwound → Machine → Outcome A → Type 0
Directs (Ok a) new outcome = outcome ≡ (Ok a, new)
Directs (Err (Later d fs)) new outcome = outcome ≡ (Err (Later d fs), new)
Directs (Err (Faulted e)) new outcome = outcome ≡ (Err (Faulted e), new)
Directs (Err NoMemory) new outcome = Unit {0}

-- memory ran out, or one frame more waits behind it
abbrev pub Waits : Frame → Unwound → Unwound → Type 0
Waits f u (Later d fs) = Later d fs ≡ waiting f u
Waits f u (Faulted e) = Faulted e ≡ waiting f u
Waits f u NoMemory = Unit {0}

-- what holds unless memory ran out
abbrev pub Lasts : {A : Type 0} → Result A Unwound → Type 0 → Type 0
Lasts (Ok a) P = P
Lasts (Err (Later d fs)) P = P
Lasts (Err (Faulted e)) P = P
Lasts (Err NoMemory) P = Unit {0}

-- ---- actions

abbrev pub done : {A : Type 0} → A → Direct A
done a = λ m. (Ok a, m)

abbrev pub later : {A : Type 0} → Doing → Direct A
later d = λ m. (Err (Later d []), m)

abbrev pub faulted : {A : Type 0} → Unwound → Direct A
faulted u = λ m. (Err u, m)

abbrev pub goes_on_after : {A B : Type 0} → Result A Unwound → Machine → Frame → (A → Direct B) → Outcome B
goes_on_after (Ok a) m f k = k a m
goes_on_after (Err u) m f k = (Err (waiting f u), m)

-- a part, for which a frame waits, and then what is behind it
abbrev pub part : {A B : Type 0} → Direct A → Frame → (A → Direct B) → Direct B
part p f k = λ m. goes_on_after (p m).0 (p m).1 f k

-- where a small step stops, that step is left
abbrev pub left_at : Doing → Stop → Unwound
left_at d (stop.Fault e) = Faulted e
left_at d (stop.Need x owners) = Later d []
left_at d (stop.NeedName repo) = Later d []

abbrev pub met : {A B : Type 0} → Result A Stop → Machine → Doing → (A → Direct B) → Outcome B
met (Ok a) m d k = k a m
met (Err t) m d k = (Err (left_at d t), m)

abbrev pub stepped : Machine → Machine
stepped m = record m { steps = m.steps + 1 }

-- why a call that isn't entered is left
abbrev pub IsLeft : Doing → Halt → Unwound → Type 0
IsLeft d (Stopped t) (Later e fs) = Later e fs ≡ left_at d t
IsLeft d (Stopped t) (Faulted e) = Faulted e ≡ left_at d t
IsLeft d (Stopped t) NoMemory = Unit {0}
IsLeft d halt.NoMemory (Later e fs) = ⊥
IsLeft d halt.NoMemory (Faulted e) = ⊥
IsLeft d halt.NoMemory NoMemory = Unit {0}

-- this is done next, by small steps
abbrev pub IsLater : {A : Type 0} → Result A Unwound → Doing → Type 0
IsLater (Ok a) d = ⊥
IsLater (Err (Later e fs)) d = Later e fs ≡ Later d []
IsLater (Err (Faulted t)) d = ⊥
IsLater (Err NoMemory) d = Unit {0}

-- this is done next, with one frame behind
abbrev pub LaterBehind : {A : Type 0} → Result A Unwound → Doing → Frame → Type 0
LaterBehind (Ok a) d f = ⊥
LaterBehind (Err (Later e fs)) d f = Later e fs ≡ Later d (f ∷ [])
LaterBehind (Err (Faulted t)) d f = ⊥
LaterBehind (Err NoMemory) d f = Unit {0}

-- a value counts as returned
abbrev pub returned : Result Value Unwound → Result Flow Unwound
returned (Ok v) = Ok (Returned v)
returned (Err u) = Err u

-- what is done next behind it, and over which frames
abbrev pub Resumes : Result Flow Unwound → List Frame → Result Doing Halt → List Frame → Type 0
Resumes (Ok g) fs (Ok d) gs = (d ≡ doing.Give g) × (gs ≡ fs)
Resumes (Ok g) fs (Err (Stopped t)) gs = ⊥
Resumes (Ok g) fs (Err halt.NoMemory) gs = Unit {0}
Resumes (Err (Later e hs)) fs (Ok d) gs = (d ≡ e) × (gs ≡ hs ++ fs)
Resumes (Err (Later e hs)) fs (Err (Stopped t)) gs = ⊥
Resumes (Err (Later e hs)) fs (Err halt.NoMemory) gs = Unit {0}
Resumes (Err (Faulted e)) fs (Ok d) gs = ⊥
Resumes (Err (Faulted e)) fs (Err (Stopped t)) gs = t ≡ stop.Fault e
Resumes (Err (Faulted e)) fs (Err halt.NoMemory) gs = Unit {0}
Resumes (Err NoMemory) fs (Ok d) gs = ⊥
Resumes (Err NoMemory) fs (Err (Stopped t)) gs = ⊥
Resumes (Err NoMemory) fs (Err halt.NoMemory) gs = Unit {0}

-- over what a client's copies have at hand
abbrev pub on : Schema → Contents → World
on s c = over s (at_hand s c)

-- ---- blocks and calls

abbrev pub unless : Flow → Direct Flow → Direct Flow
unless Next p = p
unless (Returned v) p = done (Returned v)

-- what expressions and statements do
pub record Directly : Type 0 where
  pub value_of : Expr → Direct Value
  pub execute : Stmt → Direct Flow

module _ (w : World) (n : ℕ) (inner : Directly) where
  abbrev pub in_order : List Stmt → Direct Flow
  in_order [] = done Next
  in_order (s ∷ ss) = part (inner.execute s) (frame.Rest n ss) (λ g. unless g (in_order ss))

  abbrev pub block : List Stmt → Direct Flow
  block ss = λ m. part (in_order ss) (frame.BlockEnd (length m.locals)) (λ g o. (Ok g, shorten (length m.locals) o)) m

  -- the body of a loop where its condition holds, and then what follows a turn
  abbrev pub turn_by : Direct Flow → ℕ → Expr → List Stmt → Value → Direct Flow
  turn_by next t c b v = if holds v then part (block b) (frame.Again n t c b) (λ g. unless g next) else done Next

  abbrev pub run_body : Receiver → Method → List Value → Direct Value
  run_body this method vs = λ m.
      let t : ExprType = type_named w.schema.classes method.result in
      part (block method.body) (frame.BodyEnd m.depth m.this m.locals t) (λ g o. (Ok (ended t g), outside m.depth m.this m.locals o)) (inside w this method vs m)

  abbrev pub enter : Receiver → Option Method → List Value → Direct Value
  enter this None vs = faulted (Faulted NullCall)
  enter this (Some method) vs = run_body this method vs

  abbrev pub enter_as : Receiver → ℕ → Option Method → List Value → Direct Value
  enter_as this found method vs = if found == this.class then enter this method vs else faulted (Faulted NullCall)

  abbrev pub call : ℕ → Oref → List ℕ → List Value → Direct Value
  call c x name vs = λ m.
      let owners = owners_at w.schema.classes c x m in
      if nat_lt m.depth DEPTH_LIMIT
      then met (touch w owners x m).0 (touch w owners x m).1 (doing.Enter n c x name vs) (λ found. enter_as (record { oref = x; class = c; owners = owners }) found (method_of w.schema.classes c name) vs)
      else (Err (Faulted Depth), m)

  -- the parts of a call are there
  abbrev pub ready : ExprType → Value → List ℕ → List Value → Direct Value
  ready (type.Class c) (value.Ref x) name vs = call c x name vs
  ready (type.Class c) value.Null name vs = faulted (Faulted NullCall)
  ready (type.Class c) (value.Int i) name vs = faulted (Faulted NullCall)
  ready (type.Class c) (value.Text t) name vs = faulted (Faulted NullCall)
  ready type.Int v name vs = faulted (Faulted NullCall)
  ready type.Text v name vs = faulted (Faulted NullCall)
  ready type.Null v name vs = faulted (Faulted NullCall)
  ready type.Untold v name vs = faulted (Faulted NullCall)

  abbrev pub collect : ExprType → Value → List ℕ → List Value → List Expr → Direct Value
  collect t r name vs [] = ready t r name vs
  collect t r name vs (e ∷ es) = part (inner.value_of e) (frame.Arguments n t r name vs es) (λ v. collect t r name (vs ++ v ∷ []) es)

  -- ---- nodes

  abbrev pub negate : Expr → Direct Value
  negate operand = part (inner.value_of operand) frame.Negate (λ v. done (negated v))

  abbrev pub combine : Operator → Value → Expr → Direct Value
  combine o a right = part (inner.value_of right) (frame.Combine o a) (λ b. done (combined o a b))

  abbrev pub binary : Operator → Expr → Expr → Direct Value
  binary o left right = part (inner.value_of left) (frame.Right n o right) (λ a. combine o a right)

  abbrev pub called : Expr → List ℕ → List Expr → Direct Value
  called receiver name arguments = λ m.
      let t : ExprType = type_of (scope_at w.schema m) receiver in
      part (inner.value_of receiver) (frame.Callee n t name arguments) (λ r. collect t r name [] arguments) m

  abbrev pub node : Expr-F Expr → Direct Value
  node (Expr-F.Literal v line) = done (literal_value v)
  node (Expr-F.Null line) = done value.Null
  node (Expr-F.This line) = λ m. done (this_value m.this) m
  node (Expr-F.Field name) = λ m. done (field_value w m name.text) m
  node (Expr-F.Variable name) = λ m. done (named_value w.schema m name.text) m
  node (Expr-F.New class at) = later (doing.Create class.text at)
  node (Expr-F.Parens inside line) = inner.value_of inside
  node (Expr-F.Negate operand line) = negate operand
  node (Expr-F.Binary o left right line) = binary o left right
  node (Expr-F.Call receiver method arguments) = called receiver method.text arguments

  unfoldable pub value_at : Expr → Direct Value
  value_at e = λ m. if nat_lt m.steps STEP_LIMIT then node (out-Expr e) (stepped m) else later (doing.Evaluate (suc n) e) m

  -- The body of a loop has ended, which may test so many times again: the value of the next test. Where no step is left,
  -- it is left to a small step.
  abbrev pub tests : ℕ → Expr → List Stmt → Direct Value
  tests zero c b = λ m. (Err (Later (doing.Give Next) (frame.Again n zero c b ∷ [])), m)
  tests (suc t) c b = λ m.
      if nat_lt m.steps STEP_LIMIT
      then part (inner.value_of c) (frame.Test n t c b) done (stepped m)
      else (Err (Later (doing.Give Next) (frame.Again n (suc t) c b ∷ [])), m)

  -- and then its turns
  unfoldable pub again : ℕ → Expr → List Stmt → Direct Flow
  again zero c b = λ m. (Err (Later (doing.Give Next) (frame.Again n zero c b ∷ [])), m)
  again (suc t) c b = λ m.
      if nat_lt m.steps STEP_LIMIT
      then part (inner.value_of c) (frame.Test n t c b) (λ v. turn_by (again t c b) t c b v) (stepped m)
      else (Err (Later (doing.Give Next) (frame.Again n (suc t) c b ∷ [])), m)

  -- a loop whose condition has this value
  abbrev pub turn : ℕ → Expr → List Stmt → Value → Direct Flow
  turn t c b v = turn_by (again t c b) t c b v

  -- what a statement does with the value of its first part
  abbrev pub effect : Stmt-F Stmt → Value → Direct Flow
  effect (Stmt-F.Var t name line e) v = λ m. (Ok Next, declare (type_named w.schema.classes t) name.text v m)
  effect (Stmt-F.Assign name line e) v = λ m. (Ok Next, assign_local name.text v m)
  effect (Stmt-F.FieldAssign field line e) v = λ m. (Ok Next, assign_field w field.text v m)
  effect (Stmt-F.Return e) v = done (Returned v)
  effect (Stmt-F.If c b) v = if holds v then block b else done Next
  effect (Stmt-F.IfElse c b d) v = if holds v then block b else block d
  effect (Stmt-F.While c b) v = turn 100000 c b v
  effect (Stmt-F.Print e) v = λ m. (Ok Next, print v m)
  effect (Stmt-F.Evaluate e) v = done Next

  abbrev pub statement : Stmt-F Stmt → Direct Flow
  statement s = part (inner.value_of (first_part s)) (waiting_frame w.schema.classes n s) (effect s)

  unfoldable pub statement_at : Stmt → Direct Flow
  statement_at s = λ m. if nat_lt m.steps STEP_LIMIT then statement (out-Stmt s) (stepped m) else later (doing.Execute (suc n) s) m

-- where there is room for so many nodes inside one another, which may be n deep; without room small steps go on
unfoldable pub directly : World → ℕ → ℕ → Directly
directly w zero n = record { value_of = λ e. later (doing.Evaluate n e); execute = λ s. later (doing.Execute n s) }
directly w (suc r) zero = record { value_of = λ e. later (doing.Evaluate 0 e); execute = λ s. later (doing.Execute 0 s) }
directly w (suc r) (suc n) = record { value_of = value_at w n (directly w r n); execute = statement_at w n (directly w r n) }
