-- A small step leaves what is left of a run, as an action, the same: the whole language.
use Rattle.std.proofs.Common.{◌≡◌, ℕ, ℤ, zero, suc, Bool, true, false, List, [], ◌∷◌, ◌++◌, length, Option, Some, None, Result, Ok, Err, refl, ap, sym, ◌∙◌}
use Rattle.std.specs.Prelude.{if◌then◌else◌, nat_lt, ◌==◌}
use Rattle.thor_value.specs.declared.names.Oref.{Oref}
use Rattle.thor_value.specs.declared.values.Value.{Value}
use Rattle.thor_value.specs.declared.values.Value.TheVariants as value
use Rattle.class_defs.specs.Calls.{call, call_object, enter, enter_as, owners_at, result_of, run_body}
use Rattle.class_defs.specs.Expressions.{combined, expression, value_at, values_from, values_of}
use Rattle.class_defs.specs.Objects.{create, scope_at, touch}
use Rattle.class_defs.specs.Run.{meaning}
use Rattle.class_defs.specs.Statements.{block_of, holds, in_order, repeat, statement, statement_at, turn, unless_returned}
use Rattle.class_defs.specs.Steps.{World, Action, after, ◌>>=◌, ◌>>◌, pure, step, change}
use Rattle.class_defs.specs.Types.{method_of, type_named, type_of}
use Rattle.lang_small_steps.specs.Resume.{Left, giving, given, taken, ended, value_in, block_in, shorten, inside, outside, negated, resumed_frame, resume, does, rest_of, next, give, start, begin, open_block, open_body, open_as, enters, ready, collect, go_on, turned, pop, move}
use Rattle.class_defs.specs.declared.classes.Method.{Method}
use Rattle.class_defs.specs.declared.expressions.Expr.{Expr, out-Expr}
use Rattle.class_defs.specs.declared.expressions.Expr.TheOpen.{Expr-F}
use Rattle.lang_small_steps.specs.declared.frames.Doing.{Doing}
use Rattle.lang_small_steps.specs.declared.frames.Doing.TheVariants as doing
use Rattle.lang_small_steps.specs.declared.frames.Frame.{Frame}
use Rattle.lang_small_steps.specs.declared.frames.Frame.TheVariants as frame
use Rattle.class_defs.specs.declared.limits.TheConstants.{DEPTH_LIMIT}
use Rattle.class_defs.specs.declared.machine.Flow.{Flow}
use Rattle.class_defs.specs.declared.machine.Flow.TheVariants.{Next, Returned}
use Rattle.class_defs.specs.declared.machine.Machine.{Machine}
use Rattle.class_defs.specs.declared.machine.Receiver.{Receiver}
use Rattle.class_defs.specs.declared.machine.Stop.{Stop}
use Rattle.class_defs.specs.declared.machine.Stop.TheVariants as stop
use Rattle.class_defs.specs.declared.statements.Stmt.{Stmt, out-Stmt}
use Rattle.class_defs.specs.declared.statements.Stmt.TheOpen.{Stmt-F}
use Rattle.class_defs.specs.declared.types.ExprType.{ExprType}
use Rattle.class_defs.specs.declared.types.ExprType.TheVariants as type
use Rattle.thor_value.specs.declared.values.Fault.TheVariants.{Depth, NullCall}

after_assoc : {A B C : Type 0} (r : Result A Stop) (m : Machine) (f : A → Action B) (g : B → Action C)
    → after (after r m f).0 (after r m f).1 g ≡ after r m (λ a. f a >>= g)
after_assoc (Ok a) m f g = refl
after_assoc (Err s) m f g = refl

-- one action after another, in either grouping
pub assoc : {A B C : Type 0} (p : Action A) (f : A → Action B) (g : B → Action C) → ((p >>= f) >>= g) ≡ (p >>= (λ a. f a >>= g))
assoc p f g = λ i m. after_assoc (p m).0 (p m).1 f g i

-- the same action first, and behind it actions that are equal
pub under : {A B : Type 0} (p : Action A) (f g : A → Action B) → ((a : A) → f a ≡ g a) → (p >>= f) ≡ (p >>= g)
under p f g h = λ i. p >>= (λ a. h a i)

abbrev ret : Value → Action Flow
ret v = pure (Returned v)

-- an expression is waited for by a frame
waits : (p : Action Value) (f : Value → Action Flow) (b : Flow → Action Flow) (k : Flow → Action Flow)
    → ((v : Value) → f v ≡ b (Returned v)) → ((p >>= f) >>= k) ≡ (giving p >>= (λ g. b g >>= k))
waits p f b k h =
    assoc p f k
    ∙ under p (λ v. f v >>= k) (λ v. b (Returned v) >>= k) (λ v. ap (λ (q : Action Flow). q >>= k) (h v))
    ∙ sym (assoc p ret (λ g. b g >>= k))

module _ (w : World) where
  -- a step, and then an expression that a frame waits for
  stepped : (p : Action Value) (f : Value → Action Flow) (b : Flow → Action Flow) (k : Flow → Action Flow) (a : Action Left)
      → (giving p >>= (λ g. b g >>= k)) ≡ (a >>= rest_of w) → ((v : Value) → f v ≡ b (Returned v))
      → (((step >> p) >>= f) >>= k) ≡ ((step >> a) >>= rest_of w)
  stepped p f b k a e h =
      ap (λ (q : Action Flow). q >>= k) (assoc step (λ u. p) f)
      ∙ assoc step (λ u. p >>= f) k
      ∙ under step (λ u. (p >>= f) >>= k) (λ u. a >>= rest_of w) (λ u. waits p f b k h ∙ e)
      ∙ sym (assoc step (λ u. a) (rest_of w))

  -- an expression, behind which a value is made, waited for by a frame
  makes : (p : Action Value) (f : Value → Action Value) (b : Flow → Action Flow) (k : Flow → Action Flow)
      → ((v : Value) → giving (f v) ≡ b (Returned v)) → (giving (p >>= f) >>= k) ≡ (giving p >>= (λ g. b g >>= k))
  makes p f b k h = ap (λ (q : Action Flow). q >>= k) (assoc p f ret) ∙ waits p (λ v. giving (f v)) b k h

  start_sound : (n : ℕ) (o : Expr-F Expr) (fs : List Frame)
      → (giving (value_at w (value_in w n) (block_in w n) o) >>= resume w fs) ≡ (start w n o fs >>= rest_of w)
  unfolding values_of
  start_sound n (Expr-F.Literal v line) fs = refl
  start_sound n (Expr-F.Null line) fs = refl
  start_sound n (Expr-F.This line) fs = refl
  start_sound n (Expr-F.Field name) fs = refl
  start_sound n (Expr-F.Variable name) fs = refl
  start_sound n (Expr-F.New class at) fs = refl
  start_sound n (Expr-F.Parens inner line) fs = refl
  start_sound n (Expr-F.Negate operand line) fs = makes (value_in w n operand) (λ v. pure (negated v)) (resumed_frame w frame.Negate) (resume w fs) (λ v. refl)
  start_sound n (Expr-F.Binary o l r line) fs =
      makes (value_in w n l) (λ a. value_in w n r >>= (λ b. pure (combined o a b))) (resumed_frame w (frame.Right n o r)) (resume w fs)
      (λ a. assoc (value_in w n r) (λ b. pure (combined o a b)) ret)
  start_sound n (Expr-F.Call receiver method arguments) fs = λ i m.
      let t : ExprType = type_of (scope_at w.schema m) receiver in
      makes (value_in w n receiver) (λ r. values_from w (value_in w n) (block_in w n) [] arguments >>= (λ vs. call w (block_in w n) t r method.text vs))
      (resumed_frame w (frame.Callee n t method.text arguments)) (resume w fs) (λ r. refl) i m

  turn_sound : (n t : ℕ) (c : Expr) (b : List Stmt) (fs : List Frame)
      → (repeat w (value_in w n) (block_in w n) (suc t) c b >>= resume w fs)
      ≡ ((step >> next (doing.Evaluate n c) (frame.Test n t c b ∷ fs)) >>= rest_of w)
  unfolding repeat
  turn_sound n t c b fs =
      stepped (value_in w n c) (λ v. turn w (value_in w n) (block_in w n) v b (repeat w (value_in w n) (block_in w n) t c b)) (resumed_frame w (frame.Test n t c b)) (resume w fs)
      (next (doing.Evaluate n c) (frame.Test n t c b ∷ fs)) refl (λ v. refl)

  begin_sound : (n : ℕ) (o : Stmt-F Stmt) (fs : List Frame)
      → (statement_at w (value_in w n) (block_in w n) o >>= resume w fs) ≡ ((step >> begin w n o fs) >>= rest_of w)
  begin_sound n (Stmt-F.Var t name line e) fs =
      stepped (value_in w n e) (λ v. resumed_frame w (frame.Declare (type_named w.schema.classes t) name.text) (Returned v)) (resumed_frame w (frame.Declare (type_named w.schema.classes t) name.text)) (resume w fs) (begin w n (Stmt-F.Var t name line e) fs) refl (λ v. refl)
  begin_sound n (Stmt-F.Assign name line e) fs =
      stepped (value_in w n e) (λ v. resumed_frame w (frame.Assign name.text) (Returned v)) (resumed_frame w (frame.Assign name.text)) (resume w fs) (begin w n (Stmt-F.Assign name line e) fs) refl (λ v. refl)
  begin_sound n (Stmt-F.FieldAssign field line e) fs =
      stepped (value_in w n e) (λ v. resumed_frame w (frame.FieldAssign field.text) (Returned v)) (resumed_frame w (frame.FieldAssign field.text)) (resume w fs) (begin w n (Stmt-F.FieldAssign field line e) fs) refl (λ v. refl)
  begin_sound n (Stmt-F.Return e) fs =
      stepped (value_in w n e) (λ v. resumed_frame w frame.Return (Returned v)) (resumed_frame w frame.Return) (resume w fs) (begin w n (Stmt-F.Return e) fs) refl (λ v. refl)
  begin_sound n (Stmt-F.If e b) fs =
      stepped (value_in w n e) (λ v. resumed_frame w (frame.Branch n b) (Returned v)) (resumed_frame w (frame.Branch n b)) (resume w fs) (begin w n (Stmt-F.If e b) fs) refl (λ v. refl)
  begin_sound n (Stmt-F.IfElse e b d) fs =
      stepped (value_in w n e) (λ v. resumed_frame w (frame.Branches n b d) (Returned v)) (resumed_frame w (frame.Branches n b d)) (resume w fs) (begin w n (Stmt-F.IfElse e b d) fs) refl (λ v. refl)
  begin_sound n (Stmt-F.While c b) fs = turn_sound n 100000 c b fs
  begin_sound n (Stmt-F.Print e) fs =
      stepped (value_in w n e) (λ v. resumed_frame w frame.Print (Returned v)) (resumed_frame w frame.Print) (resume w fs) (begin w n (Stmt-F.Print e) fs) refl (λ v. refl)
  begin_sound n (Stmt-F.Evaluate e) fs =
      stepped (value_in w n e) (λ v. resumed_frame w frame.Discard (Returned v)) (resumed_frame w frame.Discard) (resume w fs) (begin w n (Stmt-F.Evaluate e) fs) refl (λ v. refl)

  -- a block, and what is behind it
  block_sound : (n : ℕ) (ss : List Stmt) (fs : List Frame) → (block_in w n ss >>= resume w fs) ≡ (open_block n ss fs >>= rest_of w)
  unfolding block_of
  block_sound n ss fs = λ i m. assoc (in_order (meaning w n).execute ss) (λ flow. change (shorten (length m.locals)) >> pure flow) (resume w fs) i m

  result_is : (method : Method) (g : Flow) → result_of w.schema.classes method g ≡ ended (type_named w.schema.classes method.result) g
  result_is method (Returned v) = refl
  result_is method Next = refl

  body_sound : (n : ℕ) (this : Receiver) (o : Option Method) (vs : List Value) (fs : List Frame)
      → (giving (enter w (block_in w n) this o vs) >>= resume w fs) ≡ (open_body w n this o vs fs >>= rest_of w)
  unfolding run_body
  body_sound n this None vs fs = refl
  body_sound n this (Some method) vs fs = λ i m. at m i
    where
      at : (m : Machine) → (giving (run_body w (block_in w n) this method vs) >>= resume w fs) m ≡ (open_body w n this (Some method) vs fs >>= rest_of w) m
      at m =
          let last : Flow → Action Value = λ flow. change (outside m.depth m.this m.locals) >> pure (result_of w.schema.classes method flow) in
          let t : ExprType = type_named w.schema.classes method.result in
          let inner : Action Flow = block_in w n method.body in
          let entered : Machine = inside w this method vs m in
          let end : Flow → Action Flow = resumed_frame w (frame.BodyEnd m.depth m.this m.locals t) in
          ap (λ (q : Action Flow). (q >>= resume w fs) entered) (assoc inner last ret)
          ∙ ap (λ (q : Action Flow). q entered) (assoc inner (λ flow. last flow >>= ret) (resume w fs))
          ∙ ap (λ (q : Action Flow). q entered) (under inner (λ flow. (last flow >>= ret) >>= resume w fs) (λ flow. end flow >>= resume w fs)
          (λ flow. ap (λ v. (change (outside m.depth m.this m.locals) >> pure (Returned v)) >>= resume w fs) (result_is method flow)))
          ∙ ap (λ (q : Action Flow). q entered) (block_sound n method.body (frame.BodyEnd m.depth m.this m.locals t ∷ fs))

  as_sound : (same : Bool) (n : ℕ) (this : Receiver) (o : Option Method) (vs : List Value) (fs : List Frame)
      → (giving (if same then enter w (block_in w n) this o vs else (λ m. (Err (stop.Fault NullCall), m))) >>= resume w fs)
      ≡ ((if same then open_body w n this o vs fs else (λ m. (Err (stop.Fault NullCall), m))) >>= rest_of w)
  as_sound true n this o vs fs = body_sound n this o vs fs
  as_sound false n this o vs fs = refl

  object_sound : (deep : Bool) (n c : ℕ) (x : Oref) (owners : List Oref) (o : Option Method) (vs : List Value) (fs : List Frame) (m : Machine)
      → let this : Receiver = record { oref = x; class = c; owners = owners } in
      (giving (λ k. if deep then (touch w owners x >>= (λ found. enter_as w (block_in w n) this found o vs)) m else (Err (stop.Fault Depth), m)) >>= resume w fs) m
      ≡ ((λ k. if deep then (touch w owners x >>= (λ found. open_as w n this found o vs fs)) m else (Err (stop.Fault Depth), m)) >>= rest_of w) m
  object_sound true n c x owners o vs fs m =
      let this : Receiver = record { oref = x; class = c; owners = owners } in
      let p : Action ℕ = touch w owners x in
      let f : ℕ → Action Value = λ found. enter_as w (block_in w n) this found o vs in
      ap (λ (q : Action Flow). (q >>= resume w fs) m) (assoc p f ret)
      ∙ ap (λ (q : Action Flow). q m) (assoc p (λ found. giving (f found)) (resume w fs))
      ∙ ap (λ (q : Action Flow). q m) (under p (λ found. giving (f found) >>= resume w fs) (λ found. open_as w n this found o vs fs >>= rest_of w)
      (λ found. as_sound (found == c) n this o vs fs))
      ∙ ap (λ (q : Action Flow). q m) (sym (assoc p (λ found. open_as w n this found o vs fs) (rest_of w)))
  object_sound false n c x owners o vs fs m = refl

  enters_sound : (n c : ℕ) (x : Oref) (name : List ℕ) (vs : List Value) (fs : List Frame)
      → (giving (call_object w (block_in w n) c x name vs) >>= resume w fs) ≡ (enters w n c x name vs fs >>= rest_of w)
  unfolding call_object
  enters_sound n c x name vs fs = λ i m.
      object_sound (nat_lt m.depth DEPTH_LIMIT) n c x (owners_at w.schema.classes c x m) (method_of w.schema.classes c name) vs fs m i

  ready_sound : (n : ℕ) (t : ExprType) (r : Value) (name : List ℕ) (vs : List Value) (fs : List Frame)
      → (giving (call w (block_in w n) t r name vs) >>= resume w fs) ≡ (ready n t r name vs fs >>= rest_of w)
  unfolding call
  ready_sound n (type.Class c) (value.Ref x) name vs fs = refl
  ready_sound n (type.Class c) value.Null name vs fs = refl
  ready_sound n (type.Class c) (value.Int i) name vs fs = refl
  ready_sound n (type.Class c) (value.Text i) name vs fs = refl
  ready_sound n type.Int r name vs fs = refl
  ready_sound n type.Text r name vs fs = refl
  ready_sound n type.Null r name vs fs = refl
  ready_sound n type.Untold r name vs fs = refl

  collect_sound : (n : ℕ) (t : ExprType) (r : Value) (name : List ℕ) (vs : List Value) (es : List Expr) (fs : List Frame)
      → (giving (values_from w (value_in w n) (block_in w n) vs es >>= (λ us. call w (block_in w n) t r name us)) >>= resume w fs)
      ≡ (collect n t r name vs es fs >>= rest_of w)
  collect_sound n t r name vs [] fs = ready_sound n t r name vs fs
  collect_sound n t r name vs (e ∷ es) fs =
      let p : Action Value = value_in w n e in
      let more : Value → Action (List Value) = λ v. values_from w (value_in w n) (block_in w n) (vs ++ v ∷ []) es in
      let done : List Value → Action Value = λ us. call w (block_in w n) t r name us in
      ap (λ (q : Action Value). giving q >>= resume w fs) (assoc p more done)
      ∙ makes p (λ v. more v >>= done) (resumed_frame w (frame.Arguments n t r name vs es)) (resume w fs) (λ v. refl)

  either_sound : (b : Bool) (p q : Action Flow) (x y : Action Left) (k : Flow → Action Flow)
      → (p >>= k) ≡ (x >>= rest_of w) → (q >>= k) ≡ (y >>= rest_of w) → ((if b then p else q) >>= k) ≡ ((if b then x else y) >>= rest_of w)
  either_sound true p q x y k e f = e
  either_sound false p q x y k e f = f

  rest_sound : (n : ℕ) (ss : List Stmt) (g : Flow) (fs : List Frame)
      → (unless_returned g (in_order (meaning w n).execute ss) >>= resume w fs) ≡ (go_on n ss g fs >>= rest_of w)
  rest_sound n ss (Returned v) fs = refl
  rest_sound n [] Next fs = refl
  rest_sound n (s ∷ ss) Next fs = assoc ((meaning w n).execute s) (λ flow. unless_returned flow (in_order (meaning w n).execute ss)) (resume w fs)

  again_sound : (n t : ℕ) (c : Expr) (b : List Stmt) (g : Flow) (fs : List Frame)
      → (unless_returned g (repeat w (value_in w n) (block_in w n) t c b) >>= resume w fs) ≡ (turned n t c b g fs >>= rest_of w)
  unfolding repeat
  again_sound n t c b (Returned v) fs = refl
  again_sound n zero c b Next fs = refl
  again_sound n (suc t) c b Next fs = turn_sound n t c b fs

  pop_sound : (f : Frame) (g : Flow) (fs : List Frame) → (resumed_frame w f g >>= resume w fs) ≡ (pop w f g fs >>= rest_of w)
  pop_sound frame.Negate g fs = refl
  pop_sound (frame.Right n o e) g fs = waits (value_in w n e) (λ b. pure (Returned (combined o (given g) b))) (resumed_frame w (frame.Combine o (given g))) (resume w fs) (λ v. refl)
  pop_sound (frame.Combine o a) g fs = refl
  pop_sound (frame.Callee n t name es) g fs = collect_sound n t (given g) name [] es fs
  pop_sound (frame.Arguments n t r name done es) g fs = collect_sound n t r name (taken done g) es fs
  pop_sound (frame.BodyEnd d this ls t) g fs = refl
  pop_sound (frame.Declare t name) g fs = refl
  pop_sound (frame.Assign name) g fs = refl
  pop_sound (frame.FieldAssign name) g fs = refl
  pop_sound frame.Return g fs = refl
  pop_sound (frame.Branch n b) g fs = either_sound (holds (given g)) (block_in w n b) (pure Next) (open_block n b fs) (give Next fs) (resume w fs) (block_sound n b fs) refl
  pop_sound (frame.Branches n b c) g fs =
      either_sound (holds (given g)) (block_in w n b) (block_in w n c) (open_block n b fs) (open_block n c fs) (resume w fs) (block_sound n b fs) (block_sound n c fs)
  pop_sound frame.Print g fs = refl
  pop_sound frame.Discard g fs = refl
  pop_sound (frame.Rest n ss) g fs = rest_sound n ss g fs
  pop_sound (frame.BlockEnd k) g fs = refl
  pop_sound (frame.Test n t c b) g fs =
      let again : Action Flow = repeat w (value_in w n) (block_in w n) t c b in
      either_sound (holds (given g)) (block_in w n b >>= (λ flow. unless_returned flow again)) (pure Next) (open_block n b (frame.Again n t c b ∷ fs)) (give Next fs) (resume w fs)
      (assoc (block_in w n b) (λ flow. unless_returned flow again) (resume w fs) ∙ block_sound n b (frame.Again n t c b ∷ fs)) refl
  pop_sound (frame.Again n t c b) g fs = again_sound n t c b g fs

  pub move_sound : (d : Doing) (fs : List Frame) → (does w d >>= resume w fs) ≡ (move w d fs >>= rest_of w)
  unfolding meaning expression statement
  move_sound (doing.Evaluate zero e) fs = refl
  move_sound (doing.Evaluate (suc n) e) fs =
      let o : Expr-F Expr = out-Expr e in
      let a : Action Value = value_at w (value_in w n) (block_in w n) o in
      ap (λ (q : Action Flow). q >>= resume w fs) (assoc step (λ u. a) ret)
      ∙ assoc step (λ u. giving a) (resume w fs)
      ∙ under step (λ u. giving a >>= resume w fs) (λ u. start w n o fs >>= rest_of w) (λ u. start_sound n o fs)
      ∙ sym (assoc step (λ u. start w n o fs) (rest_of w))
  move_sound (doing.Execute zero s) fs = refl
  move_sound (doing.Execute (suc n) s) fs = begin_sound n (out-Stmt s) fs
  move_sound (doing.Create c at) fs = assoc (create w c at) ret (resume w fs) ∙ sym (assoc (create w c at) (λ v. give (Returned v) fs) (rest_of w))
  move_sound (doing.Enter n c x name vs) fs = enters_sound n c x name vs fs
  move_sound (doing.Give g) [] = refl
  move_sound (doing.Give g) (f ∷ fs) = pop_sound f g fs
