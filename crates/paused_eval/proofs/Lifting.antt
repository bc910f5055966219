-- What a run has written lies elsewhere: small steps that need no object go without as with it.
use Rattle.std.proofs.Common.{◌≡◌, ℕ, zero, suc, Bool, true, false, cond, List, [], ◌∷◌, Option, Some, None, Result, Ok, Err, refl, ap, ◌∙◌}
use Rattle.thor_value.specs.FiniteMap.{Map}
use Rattle.thor_value.specs.Names.{oref_cmp}
use Rattle.method_eval.specs.declared.halt.Halt.{Halt}
use Rattle.method_eval.specs.declared.halt.Halt.TheVariants.{Stopped, NoMemory}
use Rattle.paused_eval.specs.Does.{AtNeed, Moves, Stepped, field_assigned, field_read, lifted}
use Rattle.std.specs.Prelude.{nat_lt, ◌+◌, if◌then◌else◌}
use Rattle.thor_value.specs.declared.values.Value.{Value}
use Rattle.thor_value.specs.declared.values.Value.TheVariants as value
use Rattle.thor_value.specs.declared.values.Fault.TheVariants as fault
use Rattle.class_defs.specs.declared.limits.TheConstants.{STEP_LIMIT}
use Rattle.class_defs.specs.Objects.{scope_at, named_value, field_value}
use Rattle.class_defs.specs.Statements.{holds}
use Rattle.class_defs.specs.Steps.{World, Action, after, ◌>>=◌, ◌>>◌, step}
use Rattle.lang_small_steps.specs.Resume.{Left, given, taken, give, start, begin, open_block, open_body, ready, collect, go_on, turned, pop, move}
use Rattle.class_defs.specs.declared.classes.Method.{Method}
use Rattle.class_defs.specs.declared.expressions.Expr.{Expr}
use Rattle.class_defs.specs.declared.expressions.Expr.TheOpen.{Expr-F}
use Rattle.lang_small_steps.specs.declared.frames.Doing.{Doing}
use Rattle.lang_small_steps.specs.declared.frames.Doing.TheVariants as doing
use Rattle.lang_small_steps.specs.declared.frames.Frame.{Frame}
use Rattle.lang_small_steps.specs.declared.frames.Frame.TheVariants as frame
use Rattle.class_defs.specs.declared.machine.Flow.{Flow}
use Rattle.class_defs.specs.declared.machine.Flow.TheVariants.{Next, Returned}
use Rattle.class_defs.specs.declared.machine.Machine.{Machine}
use Rattle.class_defs.specs.declared.machine.Receiver.{Receiver}
use Rattle.class_defs.specs.declared.machine.Stop.{Stop}
use Rattle.class_defs.specs.declared.machine.Stop.TheVariants as stop
use Rattle.class_defs.specs.declared.statements.Stmt.{Stmt, out-Stmt}
use Rattle.class_defs.specs.declared.statements.Stmt.TheOpen.{Stmt-F}
use Rattle.class_defs.specs.declared.store.Object.{Object}
use Rattle.class_defs.specs.declared.types.ExprType.{ExprType}
use Rattle.class_defs.specs.declared.types.ExprType.TheVariants as type

module _ (written : Map oref_cmp Object) where
  abbrev pub add : Machine → Machine
  add m = lifted written m

  abbrev pub both : {A : Type 0} → Result A Stop × Machine → Result A Stop × Machine
  both p = (p.0, add p.1)

  -- the action does with them what it does without, and leaves them
  abbrev pub Adds : {A : Type 0} → Machine → Action A → Type 0
  Adds m p = p (add m) ≡ both (p m)

  behind_it : {A B : Type 0} (r : Result A Stop) (n : Machine) (k : A → Action B) → ((a : A) (o : Machine) → Adds o (k a)) → after r (add n) k ≡ both (after r n k)
  behind_it (Ok a) n k h = h a n
  behind_it (Err s) n k h = refl

  pub in_turn : {A B : Type 0} (p : Action A) (k : A → Action B) (m : Machine) → Adds m p → ((a : A) (o : Machine) → Adds o (k a)) → Adds m (p >>= k)
  in_turn {A} p k m e h = ap (λ (q : Result A Stop × Machine). after q.0 q.1 k) e ∙ behind_it (p m).0 (p m).1 k h

  chosen : {A : Type 0} (b : Bool) (p q r s : Result A Stop × Machine) → p ≡ both r → q ≡ both s → cond b p q ≡ both (cond b r s)
  chosen true p q r s e f = e
  chosen false p q r s e f = f

  pub step_adds : (m : Machine) → Adds m step
  unfolding step
  step_adds m = chosen (nat_lt m.steps STEP_LIMIT) _ _ (Ok tt, record m { steps = m.steps + 1 }) (Err (stop.Fault fault.Steps), m) refl refl

  pub start_adds : (w : World) (n : ℕ) (o : Expr-F Expr) (fs : List Frame) (m : Machine) → field_read o ≡ None → Adds m (start w n o fs)
  unfolding named_value scope_at
  start_adds w n (Expr-F.Literal v line) fs m plain = refl
  start_adds w n (Expr-F.Null line) fs m plain = refl
  start_adds w n (Expr-F.This line) fs m plain = refl
  start_adds w n (Expr-F.Field name) fs m plain = cc
  start_adds w n (Expr-F.Variable name) fs m plain = refl
  start_adds w n (Expr-F.New class at) fs m plain = refl
  start_adds w n (Expr-F.Parens inner line) fs m plain = refl
  start_adds w n (Expr-F.Negate operand line) fs m plain = refl
  start_adds w n (Expr-F.Binary o l r line) fs m plain = refl
  start_adds w n (Expr-F.Call receiver method arguments) fs m plain = refl

  pub begin_adds : (w : World) (n : ℕ) (o : Stmt-F Stmt) (fs : List Frame) (m : Machine) → Adds m (begin w n o fs)
  begin_adds w n (Stmt-F.Var t name line e) fs m = refl
  begin_adds w n (Stmt-F.Assign name line e) fs m = refl
  begin_adds w n (Stmt-F.FieldAssign field line e) fs m = refl
  begin_adds w n (Stmt-F.Return e) fs m = refl
  begin_adds w n (Stmt-F.If c b) fs m = refl
  begin_adds w n (Stmt-F.IfElse c b d) fs m = refl
  begin_adds w n (Stmt-F.While c b) fs m = refl
  begin_adds w n (Stmt-F.Print e) fs m = refl
  begin_adds w n (Stmt-F.Evaluate e) fs m = refl

  pub open_adds : (w : World) (n : ℕ) (this : Receiver) (o : Option Method) (vs : List Value) (fs : List Frame) (m : Machine) → Adds m (open_body w n this o vs fs)
  open_adds w n this None vs fs m = refl
  open_adds w n this (Some method) vs fs m = refl

  ready_adds : (n : ℕ) (t : ExprType) (r : Value) (name : List ℕ) (vs : List Value) (fs : List Frame) (m : Machine) → Adds m (ready n t r name vs fs)
  ready_adds n (type.Class c) (value.Ref x) name vs fs m = refl
  ready_adds n (type.Class c) value.Null name vs fs m = refl
  ready_adds n (type.Class c) (value.Int i) name vs fs m = refl
  ready_adds n (type.Class c) (value.Text i) name vs fs m = refl
  ready_adds n type.Int r name vs fs m = refl
  ready_adds n type.Text r name vs fs m = refl
  ready_adds n type.Null r name vs fs m = refl
  ready_adds n type.Untold r name vs fs m = refl

  collect_adds : (n : ℕ) (t : ExprType) (r : Value) (name : List ℕ) (vs : List Value) (es : List Expr) (fs : List Frame) (m : Machine) → Adds m (collect n t r name vs es fs)
  collect_adds n t r name vs [] fs m = ready_adds n t r name vs fs m
  collect_adds n t r name vs (e ∷ es) fs m = refl

  go_on_adds : (n : ℕ) (ss : List Stmt) (v : Flow) (fs : List Frame) (m : Machine) → Adds m (go_on n ss v fs)
  go_on_adds n ss (Returned v) fs m = refl
  go_on_adds n [] Next fs m = refl
  go_on_adds n (x ∷ ss) Next fs m = refl

  turned_adds : (n t : ℕ) (c : Expr) (b : List Stmt) (v : Flow) (fs : List Frame) (m : Machine) → Adds m (turned n t c b v fs)
  turned_adds n t c b (Returned v) fs m = refl
  turned_adds n zero c b Next fs m = refl
  turned_adds n (suc t) c b Next fs m = in_turn step _ m (step_adds m) (λ u o. refl)

  either_adds : (b : Bool) (p q : Action Left) (m : Machine) → Adds m p → Adds m q → Adds m (if b then p else q)
  either_adds true p q m h k = h
  either_adds false p q m h k = k

  pub pop_adds : (w : World) (e : Frame) (v : Flow) (fs : List Frame) (m : Machine) → field_assigned e ≡ None → Adds m (pop w e v fs)
  pop_adds w frame.Negate v fs m plain = refl
  pop_adds w (frame.Right n o e) v fs m plain = refl
  pop_adds w (frame.Combine o a) v fs m plain = refl
  pop_adds w (frame.Callee n t name es) v fs m plain = collect_adds n t (given v) name [] es fs m
  pop_adds w (frame.Arguments n t r name done es) v fs m plain = collect_adds n t r name (taken done v) es fs m
  pop_adds w (frame.BodyEnd d this ls t) v fs m plain = refl
  pop_adds w (frame.Declare t name) v fs m plain = refl
  pop_adds w (frame.Assign name) v fs m plain = refl
  pop_adds w (frame.FieldAssign name) v fs m plain = cc
  pop_adds w frame.Return v fs m plain = refl
  pop_adds w (frame.Branch n b) v fs m plain = either_adds (holds (given v)) (open_block n b fs) (give Next fs) m refl refl
  pop_adds w (frame.Branches n b c) v fs m plain = either_adds (holds (given v)) (open_block n b fs) (open_block n c fs) m refl refl
  pop_adds w frame.Print v fs m plain = refl
  pop_adds w frame.Discard v fs m plain = refl
  pop_adds w (frame.Rest n ss) v fs m plain = go_on_adds n ss v fs m
  pop_adds w (frame.BlockEnd k) v fs m plain = refl
  pop_adds w (frame.Test n t c b) v fs m plain = either_adds (holds (given v)) (open_block n b (frame.Again n t c b ∷ fs)) (give Next fs) m refl refl
  pop_adds w (frame.Again n t c b) v fs m plain = turned_adds n t c b v fs m

  -- ---- in the words of the code

  pub lift : (r : Result Doing Halt) (fs : List Frame) (m n : Machine) (a : Action Left) → Adds m a → Moves r fs m n a → Moves r fs (add m) (add n) a
  lift (Ok d) fs m n a e h = e ∙ ap both h
  lift (Err (Stopped (stop.Fault t))) fs m n a e h = e ∙ ap both h
  lift (Err (Stopped (stop.Need x owners))) fs m n a e h = h
  lift (Err (Stopped (stop.NeedName repo))) fs m n a e h = h
  lift (Err NoMemory) fs m n a e h = h

  pub lift_step : (r : Result (Unit {0}) Halt) (m n : Machine) → Stepped r m n → Stepped r (add m) (add n)
  lift_step (Ok u) m n h = step_adds m ∙ ap both h
  lift_step (Err (Stopped (stop.Fault t))) m n h = step_adds m ∙ ap both h
  lift_step (Err (Stopped (stop.Need x owners))) m n h = h
  lift_step (Err (Stopped (stop.NeedName repo))) m n h = h
  lift_step (Err NoMemory) m n h = h

  pub lift_start : (w : World) (n : ℕ) (o : Expr-F Expr) (fs gs : List Frame) (m k : Machine) (r : Result Doing Halt) → field_read o ≡ None
      → Moves r gs m k (step >> start w n o fs) → Moves r gs (add m) (add k) (step >> start w n o fs)
  lift_start w n o fs gs m k r plain h = lift r gs m k (step >> start w n o fs) (in_turn step _ m (step_adds m) (λ u p. start_adds w n o fs p plain)) h

  pub lift_begin : (w : World) (n : ℕ) (o : Stmt-F Stmt) (fs gs : List Frame) (m k : Machine) (r : Result Doing Halt)
      → Moves r gs m k (step >> begin w n o fs) → Moves r gs (add m) (add k) (step >> begin w n o fs)
  lift_begin w n o fs gs m k r h = lift r gs m k (step >> begin w n o fs) (in_turn step _ m (step_adds m) (λ u p. begin_adds w n o fs p)) h

  execute_adds : (w : World) (n : ℕ) (x : Stmt) (fs : List Frame) (m : Machine) → Adds m (move w (doing.Execute n x) fs)
  execute_adds w zero x fs m = refl
  execute_adds w (suc n) x fs m = in_turn step _ m (step_adds m) (λ u o. begin_adds w n (out-Stmt x) fs o)

  pub lift_execute : (w : World) (n : ℕ) (x : Stmt) (fs gs : List Frame) (m k : Machine) (r : Result Doing Halt)
      → Moves r gs m k (move w (doing.Execute n x) fs) → Moves r gs (add m) (add k) (move w (doing.Execute n x) fs)
  lift_execute w n x fs gs m k r h = lift r gs m k (move w (doing.Execute n x) fs) (execute_adds w n x fs m) h

  pub lift_pop : (w : World) (e : Frame) (v : Flow) (fs gs : List Frame) (m k : Machine) (r : Result Doing Halt) → field_assigned e ≡ None
      → Moves r gs m k (pop w e v fs) → Moves r gs (add m) (add k) (pop w e v fs)
  lift_pop w e v fs gs m k r plain h = lift r gs m k (pop w e v fs) (pop_adds w e v fs m plain) h

  pub lift_open : (w : World) (n : ℕ) (this : Receiver) (o : Option Method) (vs : List Value) (fs gs : List Frame) (m k : Machine) (r : Result Doing Halt)
      → Moves r gs m k (open_body w n this o vs fs) → Moves r gs (add m) (add k) (open_body w n this o vs fs)
  lift_open w n this o vs fs gs m k r h = lift r gs m k (open_body w n this o vs fs) (open_adds w n this o vs fs m) h

-- a field of `this` is read
pub field_moves : (w : World) (fs : List Frame) (m n o : Machine) (u : Unit {0}) (name : List ℕ) (line : ℕ) (v : Value) → step m ≡ (Ok u, n) → v ≡ field_value w n name → o ≡ n
    → (step >> start w 0 (Expr-F.Field (record { text = name; line = line })) fs) m ≡ (Ok (record { doing = doing.Give (Returned v); stack = fs }), o)
field_moves w fs m n o u name line v stepped value same =
    rw (value, same) (ap (λ (q : Result (Unit {0}) Stop × Machine). after q.0 q.1 (λ x. start w 0 (Expr-F.Field (record { text = name; line = line })) fs)) stepped)

-- what holds anyhow holds where it needs something
pub needed_so : {A : Type 0} (r : Result A Halt) (P : Type 0) → P → AtNeed r P
needed_so (Ok a) P h = tt
needed_so (Err (Stopped (stop.Fault t))) P h = tt
needed_so (Err (Stopped (stop.Need x owners))) P h = h
needed_so (Err (Stopped (stop.NeedName repo))) P h = h
needed_so (Err NoMemory) P h = tt

-- what moves needs nothing
pub never_needs : (r : Result Doing Halt) (fs : List Frame) (m n : Machine) (a : Action Left) (P : Type 0) → Moves r fs m n a → AtNeed r P
never_needs (Ok d) fs m n a P h = tt
never_needs (Err (Stopped (stop.Fault t))) fs m n a P h = tt
never_needs (Err (Stopped (stop.Need x owners))) fs m n a P h = absurd h
never_needs (Err (Stopped (stop.NeedName repo))) fs m n a P h = absurd h
never_needs (Err NoMemory) fs m n a P h = tt

pub ruleset lifts = (lift_start, lift_begin, lift_execute, lift_pop, lift_open)
