-- Other names at hand: every small step but a creation goes as before, and leaves them.
use Rattle.std.proofs.Common.{◌≡◌, ℕ, zero, suc, Bool, true, false, cond, List, [], ◌∷◌, ◌++◌, Option, Some, None, Result, Ok, Err, refl, ap, ◌∙◌}
use Rattle.std.specs.Prelude.{nat_lt, ◌+◌, ◌==◌, ◌||◌, if◌then◌else◌, find, is_some}
use Rattle.thor_value.specs.FiniteMap.{has, len}
use Rattle.thor_value.specs.Names.{same_oref}
use Rattle.thor_value.specs.declared.names.Oref.{Oref}
use Rattle.thor_value.specs.declared.values.Value.{Value}
use Rattle.thor_value.specs.declared.values.Value.TheVariants as value
use Rattle.thor_value.specs.declared.values.Fault.TheVariants as fault
use Rattle.class_defs.specs.declared.limits.TheConstants.{READ_LIMIT, STEP_LIMIT}
use Rattle.class_defs.specs.Calls.{owners_at}
use Rattle.class_defs.specs.Objects.{assign_receiver, touch, seen, with_field, scope_at, named_value, class_found, field_value, assign_field}
use Rattle.class_defs.specs.Statements.{holds}
use Rattle.class_defs.specs.Steps.{World, Action, after, ◌>>=◌, ◌>>◌, step}
use Rattle.class_defs.specs.Types.{field_named, method_of}
use Rattle.lang_small_steps.specs.Resume.{Left, given, taken, give, start, begin, open_block, open_body, open_as, enters, ready, collect, go_on, turned, pop, move}
use Rattle.class_defs.specs.declared.classes.Method.{Method}
use Rattle.class_defs.specs.declared.expressions.Expr.{Expr, out-Expr}
use Rattle.class_defs.specs.declared.expressions.Expr.TheOpen.{Expr-F}
use Rattle.lang_small_steps.specs.declared.frames.Doing.{Doing}
use Rattle.lang_small_steps.specs.declared.frames.Doing.TheVariants as doing
use Rattle.lang_small_steps.specs.declared.frames.Frame.{Frame}
use Rattle.lang_small_steps.specs.declared.frames.Frame.TheVariants as frame
use Rattle.class_defs.specs.declared.limits.TheConstants.{DEPTH_LIMIT}
use Rattle.class_defs.specs.declared.machine.Flow.{Flow}
use Rattle.class_defs.specs.declared.machine.Flow.TheVariants.{Next, Returned}
use Rattle.class_defs.specs.declared.machine.Machine.{Machine}
use Rattle.class_defs.specs.declared.machine.NameSupply.{NameSupply}
use Rattle.class_defs.specs.declared.machine.Receiver.{Receiver}
use Rattle.class_defs.specs.declared.machine.Stop.{Stop}
use Rattle.class_defs.specs.declared.machine.Stop.TheVariants as stop
use Rattle.class_defs.specs.declared.statements.Stmt.{Stmt, out-Stmt}
use Rattle.class_defs.specs.declared.statements.Stmt.TheOpen.{Stmt-F}
use Rattle.class_defs.specs.declared.store.Object.{Object}
use Rattle.class_defs.specs.declared.types.ExprType.{ExprType}
use Rattle.class_defs.specs.declared.types.ExprType.TheVariants as type

abbrev pub IsNoCreation : Doing → Type 0
IsNoCreation (doing.Create c at) = ⊥
IsNoCreation (doing.Evaluate n e) = Unit {0}
IsNoCreation (doing.Execute n x) = Unit {0}
IsNoCreation (doing.Enter n c x name vs) = Unit {0}
IsNoCreation (doing.Give v) = Unit {0}

module _ (f : NameSupply → NameSupply) where
  -- the state with other names
  abbrev pub add : Machine → Machine
  add m = record m { names = f m.names }

  abbrev pub both : {A : Type 0} → Result A Stop × Machine → Result A Stop × Machine
  both p = (p.0, add p.1)

  -- the action does with other names what it does without, and leaves them
  abbrev pub Adds : {A : Type 0} → Machine → Action A → Type 0
  Adds m p = p (add m) ≡ both (p m)

  behind_it : {A B : Type 0} (r : Result A Stop) (n : Machine) (k : A → Action B) → ((a : A) (o : Machine) → Adds o (k a)) → after r (add n) k ≡ both (after r n k)
  behind_it (Ok a) n k h = h a n
  behind_it (Err s) n k h = refl

  in_turn : {A B : Type 0} (p : Action A) (k : A → Action B) (m : Machine) → Adds m p → ((a : A) (o : Machine) → Adds o (k a)) → Adds m (p >>= k)
  in_turn {A} p k m e h = ap (λ (q : Result A Stop × Machine). after q.0 q.1 k) e ∙ behind_it (p m).0 (p m).1 k h

  chosen : {A : Type 0} (b : Bool) (p q r s : Result A Stop × Machine) → p ≡ both r → q ≡ both s → cond b p q ≡ both (cond b r s)
  chosen true p q r s e f = e
  chosen false p q r s e f = f

  step_adds : (m : Machine) → Adds m step
  unfolding step
  step_adds m = chosen (nat_lt m.steps STEP_LIMIT) _ _ (Ok tt, record m { steps = m.steps + 1 }) (Err (stop.Fault fault.Steps), m) refl refl

  found_adds : (o : Option Object) (x : Oref) (owners : List Oref) (m : Machine) → Adds m (class_found o x owners)
  found_adds (Some o) x owners m = refl
  found_adds None x owners m = refl

  touch_adds : (w : World) (owners : List Oref) (x : Oref) (m : Machine) → Adds m (touch w owners x)
  unfolding touch seen
  touch_adds w owners x m =
      chosen (has m.reads x || is_some (find (same_oref x) m.created)) _ _ _ _ (found_adds (seen w m x) x owners m)
      (chosen (nat_lt (len m.reads) READ_LIMIT) _ _ _ _ (in_turn (class_found (seen w m x) x owners) _ m (found_adds (seen w m x) x owners m) (λ c o. refl)) refl)

  start_adds : (w : World) (n : ℕ) (o : Expr-F Expr) (fs : List Frame) (m : Machine) → Adds m (start w n o fs)
  unfolding field_value named_value scope_at seen
  start_adds w n (Expr-F.Literal v line) fs m = refl
  start_adds w n (Expr-F.Null line) fs m = refl
  start_adds w n (Expr-F.This line) fs m = refl
  start_adds w n (Expr-F.Field name) fs m = refl
  start_adds w n (Expr-F.Variable name) fs m = refl
  start_adds w n (Expr-F.New class at) fs m = refl
  start_adds w n (Expr-F.Parens inner line) fs m = refl
  start_adds w n (Expr-F.Negate operand line) fs m = refl
  start_adds w n (Expr-F.Binary o l r line) fs m = refl
  start_adds w n (Expr-F.Call receiver method arguments) fs m = refl

  begin_adds : (w : World) (n : ℕ) (o : Stmt-F Stmt) (fs : List Frame) (m : Machine) → Adds m (begin w n o fs)
  begin_adds w n (Stmt-F.Var t name line e) fs m = refl
  begin_adds w n (Stmt-F.Assign name line e) fs m = refl
  begin_adds w n (Stmt-F.FieldAssign field line e) fs m = refl
  begin_adds w n (Stmt-F.Return e) fs m = refl
  begin_adds w n (Stmt-F.If c b) fs m = refl
  begin_adds w n (Stmt-F.IfElse c b d) fs m = refl
  begin_adds w n (Stmt-F.While c b) fs m = refl
  begin_adds w n (Stmt-F.Print e) fs m = refl
  begin_adds w n (Stmt-F.Evaluate e) fs m = refl

  open_adds : (w : World) (n : ℕ) (this : Receiver) (o : Option Method) (vs : List Value) (fs : List Frame) (m : Machine) → Adds m (open_body w n this o vs fs)
  open_adds w n this None vs fs m = refl
  open_adds w n this (Some method) vs fs m = refl

  as_adds : (b : Bool) (w : World) (n : ℕ) (this : Receiver) (o : Option Method) (vs : List Value) (fs : List Frame) (m : Machine)
      → Adds m (if b then open_body w n this o vs fs else (λ n. (Err (stop.Fault fault.NullCall), n)))
  as_adds true w n this o vs fs m = open_adds w n this o vs fs m
  as_adds false w n this o vs fs m = refl

  enters_adds : (w : World) (n c : ℕ) (x : Oref) (name : List ℕ) (vs : List Value) (fs : List Frame) (m : Machine) → Adds m (enters w n c x name vs fs)
  unfolding owners_at
  enters_adds w n c x name vs fs m =
      let owners = owners_at w.schema.classes c x m in
      let k : ℕ → Action Left = λ found. open_as w n (record { oref = x; class = c; owners = owners }) found (method_of w.schema.classes c name) vs fs in
      chosen (nat_lt m.depth DEPTH_LIMIT) _ _ ((touch w owners x >>= k) m) (Err (stop.Fault fault.Depth), m)
      (in_turn (touch w owners x) k m (touch_adds w owners x m) (λ found o. as_adds (found == c) w n (record { oref = x; class = c; owners = owners }) (method_of w.schema.classes c name) vs fs o)) refl

  ready_adds : (n : ℕ) (t : ExprType) (r : Value) (name : List ℕ) (vs : List Value) (fs : List Frame) (m : Machine) → Adds m (ready n t r name vs fs)
  ready_adds n (type.Class c) (value.Ref x) name vs fs m = refl
  ready_adds n (type.Class c) value.Null name vs fs m = refl
  ready_adds n (type.Class c) (value.Int i) name vs fs m = refl
  ready_adds n (type.Class c) (value.Text i) name vs fs m = refl
  ready_adds n type.Int r name vs fs m = refl
  ready_adds n type.Text r name vs fs m = refl
  ready_adds n type.Null r name vs fs m = refl
  ready_adds n type.Untold r name vs fs m = refl

  collect_adds : (n : ℕ) (t : ExprType) (r : Value) (name : List ℕ) (vs : List Value) (es : List Expr) (fs : List Frame) (m : Machine) → Adds m (collect n t r name vs es fs)
  collect_adds n t r name vs [] fs m = ready_adds n t r name vs fs m
  collect_adds n t r name vs (e ∷ es) fs m = refl

  go_on_adds : (n : ℕ) (ss : List Stmt) (v : Flow) (fs : List Frame) (m : Machine) → Adds m (go_on n ss v fs)
  go_on_adds n ss (Returned v) fs m = refl
  go_on_adds n [] Next fs m = refl
  go_on_adds n (x ∷ ss) Next fs m = refl

  turned_adds : (n t : ℕ) (c : Expr) (b : List Stmt) (v : Flow) (fs : List Frame) (m : Machine) → Adds m (turned n t c b v fs)
  turned_adds n t c b (Returned v) fs m = refl
  turned_adds n zero c b Next fs m = refl
  turned_adds n (suc t) c b Next fs m = in_turn step _ m (step_adds m) (λ u o. refl)

  either_adds : (b : Bool) (p q : Action Left) (m : Machine) → Adds m p → Adds m q → Adds m (if b then p else q)
  either_adds true p q m h k = h
  either_adds false p q m h k = k

  with_adds : (o : Option Object) (i : Option ℕ) (v : Value) (x : Oref) (m : Machine) → with_field o i v x (add m) ≡ add (with_field o i v x m)
  with_adds (Some o) (Some i) v x m = refl
  with_adds (Some o) None v x m = refl
  with_adds None i v x m = refl

  assign_adds : (w : World) (t : Option Receiver) (name : List ℕ) (v : Value) (m : Machine) → assign_receiver w t name v (add m) ≡ add (assign_receiver w t name v m)
  unfolding seen
  assign_adds w None name v m = refl
  assign_adds w (Some r) name v m = with_adds (seen w m r.oref) (field_named w.schema.classes r.class name) v r.oref m

  pop_adds : (w : World) (e : Frame) (v : Flow) (fs : List Frame) (m : Machine) → Adds m (pop w e v fs)
  unfolding assign_field seen
  pop_adds w frame.Negate v fs m = refl
  pop_adds w (frame.Right n o e) v fs m = refl
  pop_adds w (frame.Combine o a) v fs m = refl
  pop_adds w (frame.Callee n t name es) v fs m = collect_adds n t (given v) name [] es fs m
  pop_adds w (frame.Arguments n t r name done es) v fs m = collect_adds n t r name (taken done v) es fs m
  pop_adds w (frame.BodyEnd d this ls t) v fs m = refl
  pop_adds w (frame.Declare t name) v fs m = refl
  pop_adds w (frame.Assign name) v fs m = refl
  pop_adds w (frame.FieldAssign name) v fs m = ap (λ (o : Machine). give Next fs o) (assign_adds w m.this name (given v) m)
  pop_adds w frame.Return v fs m = refl
  pop_adds w (frame.Branch n b) v fs m = either_adds (holds (given v)) (open_block n b fs) (give Next fs) m refl refl
  pop_adds w (frame.Branches n b c) v fs m = either_adds (holds (given v)) (open_block n b fs) (open_block n c fs) m refl refl
  pop_adds w frame.Print v fs m = refl
  pop_adds w frame.Discard v fs m = refl
  pop_adds w (frame.Rest n ss) v fs m = go_on_adds n ss v fs m
  pop_adds w (frame.BlockEnd k) v fs m = refl
  pop_adds w (frame.Test n t c b) v fs m = either_adds (holds (given v)) (open_block n b (frame.Again n t c b ∷ fs)) (give Next fs) m refl refl
  pop_adds w (frame.Again n t c b) v fs m = turned_adds n t c b v fs m

  pub move_adds : (w : World) (d : Doing) (fs : List Frame) (m : Machine) → IsNoCreation d → Adds m (move w d fs)
  move_adds w (doing.Evaluate zero e) fs m h = refl
  move_adds w (doing.Evaluate (suc n) e) fs m h = in_turn step _ m (step_adds m) (λ u o. start_adds w n (out-Expr e) fs o)
  move_adds w (doing.Execute zero x) fs m h = refl
  move_adds w (doing.Execute (suc n) x) fs m h = in_turn step _ m (step_adds m) (λ u o. begin_adds w n (out-Stmt x) fs o)
  move_adds w (doing.Create c at) fs m h = absurd h
  move_adds w (doing.Enter n c x name vs) fs m h = enters_adds w n c x name vs fs m
  move_adds w (doing.Give v) [] m h = refl
  move_adds w (doing.Give v) (e ∷ fs) m h = pop_adds w e v fs m
