-- Calls, expressions, statements and whole transactions need the same objects over what has the same.
use Rattle.std.proofs.Common.{◌≡◌, Bool, true, false, cond, List, [], ◌∷◌, ◌++◌, Option, Some, None, Result, Ok, Err, refl, ℕ, zero, suc, take, length}
use Rattle.std.specs.Prelude.{nat_lt, ◌+◌, ◌==◌}
use Rattle.thor_value.specs.declared.names.Oref.{Oref}
use Rattle.thor_value.specs.declared.values.Fault.TheVariants as fault
use Rattle.thor_value.specs.declared.values.Value.{Value}
use Rattle.thor_value.specs.declared.values.Value.TheVariants as value
use Rattle.class_defs.proofs.ActionWords.{over}
use Rattle.class_defs.specs.Calls.{bound, call, call_object, enter, enter_as, owners_at, run_body}
use Rattle.class_defs.specs.Expressions.{combined, expression, this_value, value_at, values_from, values_of}
use Rattle.class_defs.specs.Kinds.{literal_value}
use Rattle.class_defs.specs.Kinds.{printed_as}
use Rattle.class_defs.specs.Objects.{assign_field, field_value, named_value, scope_at, touch}
use Rattle.class_defs.specs.Run.{begun, execute_all, meaning}
use Rattle.class_defs.specs.Statements.{assign_local, block_of, branch, declare, holds, in_order, repeat, statement, statement_at, turn, unless_returned}
use Rattle.class_defs.specs.Steps.{World, Action, change, pure, step, ◌>>=◌, ◌>>◌}
use Rattle.class_defs.specs.Types.{method_of, type_named, type_of}
use Rattle.class_defs.specs.declared.classes.Method.{Method}
use Rattle.class_defs.specs.declared.expressions.Expr.{Expr, out-Expr}
use Rattle.class_defs.specs.declared.expressions.Expr.TheOpen.{Expr-F}
use Rattle.class_defs.specs.declared.limits.TheConstants.{DEPTH_LIMIT}
use Rattle.class_defs.specs.declared.machine.Flow.{Flow}
use Rattle.class_defs.specs.declared.machine.Flow.TheVariants.{Next, Returned}
use Rattle.class_defs.specs.declared.machine.Machine.{Machine}
use Rattle.class_defs.specs.declared.machine.Receiver.{Receiver}
use Rattle.class_defs.specs.declared.machine.Stop.{Stop}
use Rattle.class_defs.specs.declared.machine.Stop.TheVariants as stop
use Rattle.class_defs.specs.declared.statements.Stmt.{Stmt, out-Stmt}
use Rattle.class_defs.specs.declared.statements.Stmt.TheOpen.{Stmt-F}
use Rattle.class_defs.specs.declared.store.Object.{Object}
use Rattle.class_defs.specs.declared.store.Schema.{Schema}
use Rattle.class_defs.specs.declared.types.ExprType.{ExprType}
use Rattle.class_defs.specs.declared.types.ExprType.TheVariants as type
use Rattle.law_eval.proofs.Needs.{Both, Needs, bind, choose, create_needs, failing, given, on, steps, stops, tells, touch_needs, value}
use Rattle.law_frame.proofs.Alike.{Grows, Sound, known, this_grows}
use Rattle.law_frame.proofs.AlikeObjects.{assign_field_alike, field_value_alike, touch_known}
use Rattle.law_frame.proofs.AlikeRun.{changes as alike_changes}
use Rattle.law_frame.proofs.AlikeSteps.{Agree, gives}

module _ (f g : Oref → Option Object) where
  -- a change of the state that leaves what is read, written, created and `this`
  changes : {A : Type 0} (c : Machine → Machine) (a : A) → ((m : Machine) → Grows m (c m)) → ((m : Machine) → Sound m → Sound (c m)) → Needs f g (change c >> pure a) (change c >> pure a)
  changes c a grows sound m s = given f g a m (c m) (Ok a, c m) (alike_changes f g c a grows sound m s)

  unless_needs : (flow : Flow) (p q : Action Flow) → Needs f g p q → Needs f g (unless_returned flow p) (unless_returned flow q)
  unless_needs Next p q h = h
  unless_needs (Returned v) p q h = value f g (Returned v)

  order_needs : (r t : Stmt → Action Flow) → ((s : Stmt) → Needs f g (r s) (t s)) → (ss : List Stmt) → Needs f g (in_order r ss) (in_order t ss)
  order_needs r t h [] = value f g Next
  order_needs r t h (s ∷ ss) = bind f g (r s) (t s) _ _ (h s) (λ flow. unless_needs flow (in_order r ss) (in_order t ss) (order_needs r t h ss))

  block_needs : (r t : Stmt → Action Flow) → ((s : Stmt) → Needs f g (r s) (t s)) → (ss : List Stmt) → Needs f g (block_of r ss) (block_of t ss)
  unfolding block_of
  block_needs r t h ss m s =
      bind f g (in_order r ss) (in_order t ss) _ _ (order_needs r t h ss)
      (λ flow. changes (λ n. record n { locals = take (length m.locals) n.locals }) flow (λ n. record { reads = λ x k. k; writes = λ x k. k }) (λ n k. record { this = k.this; created = k.created })) m s

module _ (schema : Schema) (f g : Oref → Option Object) (v u : Expr → Action Value) (b d : List Stmt → Action Flow)
    (values : (e : Expr) → Needs f g (v e) (u e)) (blocks : (ss : List Stmt) → Needs f g (b ss) (d ss)) where
  abbrev one : World
  one = over schema f

  abbrev other : World
  other = over schema g

  -- ---- calls

  body_needs : (this : Receiver) (method : Method) (arguments : List Value) (m : Machine) → Sound m → known m this.oref ≡ true
      → Both f g Value m (run_body one b this method arguments m).0 (run_body one b this method arguments m).1 (run_body other d this method arguments m)
  unfolding run_body
  body_needs this method arguments m s k =
      let inside = record m { depth = m.depth + 1; this = Some this; locals = bound schema.classes method.parameters arguments } in
      let h = blocks method.body inside (record { this = k; created = s.created }) in
      on f g m _ _ _ _ _ (record {
        alike = record { grows = record { reads = h.alike.grows.reads; writes = h.alike.grows.writes }; sound = h.alike.sound; same = h.alike.same };
        need = h.need;
      }) (λ flow is t grows.
      let n = (b method.body inside).1 in
      let back = record n { depth = m.depth; this = m.this; locals = m.locals } in
      let same : Grows n back = record { reads = λ x r. r; writes = λ x r. r } in
      given f g _ n back _ (gives f g n back back _ _ same (record {
        this = this_grows n back same m.this (this_grows m n grows m.this s.this);
        created = t.created;
      }) (λ agree. refl) (λ agree. refl)))

  enter_needs : (this : Receiver) (method : Option Method) (arguments : List Value) (m : Machine) → Sound m → known m this.oref ≡ true
      → Both f g Value m (enter one b this method arguments m).0 (enter one b this method arguments m).1 (enter other d this method arguments m)
  enter_needs this None arguments m s k = stops f g (stop.Fault fault.NullCall) m
  enter_needs this (Some method) arguments m s k = body_needs this method arguments m s k

  object_needs : (l : Bool) (c : ℕ) (x : Oref) (owners : List Oref) (name : List ℕ) (arguments : List Value) (m : Machine) → Sound m
      → let goes : World → (List Stmt → Action Flow) → Result Value Stop × Machine = λ w block.
      cond l ((touch w owners x >>= (λ found. enter_as w block (record { oref = x; class = c; owners = owners }) found (method_of schema.classes c name) arguments)) m) (Err (stop.Fault fault.Depth), m) in
      Both f g Value m (goes one b).0 (goes one b).1 (goes other d)
  object_needs true c x owners name arguments m s =
      on f g m _ _ _ _ _ (touch_needs f g schema owners x m s) (λ found is t grows.
      choose f g (found == c) _ _ _ _ _
      (enter_needs (record { oref = x; class = c; owners = owners }) (method_of schema.classes c name) arguments _ t (touch_known schema f g owners x m found s is))
      (stops f g (stop.Fault fault.NullCall) _))
  object_needs false c x owners name arguments m s = stops f g (stop.Fault fault.Depth) m

  call_object_needs : (c : ℕ) (x : Oref) (name : List ℕ) (arguments : List Value) → Needs f g (call_object one b c x name arguments) (call_object other d c x name arguments)
  unfolding call_object
  call_object_needs c x name arguments m s = object_needs (nat_lt m.depth DEPTH_LIMIT) c x (owners_at schema.classes c x m) name arguments m s

  call_needs : (t : ExprType) (r : Value) (name : List ℕ) (arguments : List Value) → Needs f g (call one b t r name arguments) (call other d t r name arguments)
  unfolding call
  call_needs (type.Class c) (value.Ref x) name arguments m s = call_object_needs c x name arguments m s
  call_needs (type.Class c) value.Null name arguments m s = stops f g (stop.Fault fault.NullCall) m
  call_needs (type.Class c) (value.Int n) name arguments m s = stops f g (stop.Fault fault.NullCall) m
  call_needs (type.Class c) (value.Text n) name arguments m s = stops f g (stop.Fault fault.NullCall) m
  call_needs type.Int r name arguments m s = stops f g (stop.Fault fault.NullCall) m
  call_needs type.Text r name arguments m s = stops f g (stop.Fault fault.NullCall) m
  call_needs type.Null r name arguments m s = stops f g (stop.Fault fault.NullCall) m
  call_needs type.Untold r name arguments m s = stops f g (stop.Fault fault.NullCall) m

  values_need : (vs : List Value) (es : List Expr) → Needs f g (values_from one v b vs es) (values_from other u d vs es)
  values_need vs [] = value f g vs
  values_need vs (e ∷ es) = bind f g (v e) (u e) _ _ (values e) (λ r. values_need (vs ++ r ∷ []) es)

  values_of_need : (es : List Expr) → Needs f g (values_of one v b es) (values_of other u d es)
  unfolding values_of
  values_of_need es = values_need [] es

  -- ---- expressions

  node_needs : (e : Expr-F Expr) → Needs f g (value_at one v b e) (value_at other u d e)
  node_needs (Expr-F.Literal n line) = value f g (literal_value n)
  node_needs (Expr-F.Null line) = value f g value.Null
  node_needs (Expr-F.This line) = tells f g (λ m. this_value m.this)
  node_needs (Expr-F.Field name) = λ m s. given f g (field_value one m name.text) m m _ (field_value_alike schema f g name.text m s)
  node_needs (Expr-F.Variable name) = tells f g (λ m. named_value schema m name.text)
  node_needs (Expr-F.New class at) = create_needs f g schema class.text at
  node_needs (Expr-F.Parens inner line) = values inner
  node_needs (Expr-F.Negate operand line) = bind f g (v operand) (u operand) _ _ (values operand) (λ r. value f g _)
  node_needs (Expr-F.Binary operator left right line) =
      bind f g (v left) (u left) _ _ (values left) (λ a. bind f g (v right) (u right) _ _ (values right) (λ c. value f g (combined operator a c)))
  node_needs (Expr-F.Call receiver method arguments) = λ m s.
      bind f g (v receiver) (u receiver) _ _ (values receiver) (λ r.
      bind f g (values_of one v b arguments) (values_of other u d arguments) _ _ (values_of_need arguments) (λ vs.
      call_needs (type_of (scope_at schema m) receiver) r method.text vs)) m s

  expression_needs : (e : Expr) → Needs f g (expression one v b e) (expression other u d e)
  unfolding expression
  expression_needs e = bind f g step step _ _ (steps f g) (λ t. node_needs (out-Expr e))

  -- ---- statements

  either_needs : {A : Type 0} (c : Bool) (p q r s : Action A) → Needs f g p r → Needs f g q s → Needs f g (cond c p q) (cond c r s)
  either_needs true p q r s h k = h
  either_needs false p q r s h k = k

  turn_needs : (t : Value) (body : List Stmt) (p q : Action Flow) → Needs f g p q → Needs f g (turn one v b t body p) (turn other u d t body q)
  turn_needs t body p q h =
      either_needs (holds t) _ _ _ _ (bind f g (b body) (d body) _ _ (blocks body) (λ flow. unless_needs f g flow p q h)) (value f g Next)

  first_value : (e : Expr) → Needs f g (step >> v e) (step >> u e)
  first_value e = bind f g step step _ _ (steps f g) (λ t. values e)

  repeat_needs : (n : ℕ) (c : Expr) (body : List Stmt) → Needs f g (repeat one v b n c body) (repeat other u d n c body)
  unfolding repeat
  repeat_needs zero c body = failing f g (stop.Fault fault.Steps)
  repeat_needs (suc n) c body = bind f g _ _ _ _ (first_value c) (λ t. turn_needs t body _ _ (repeat_needs n c body))

  branch_needs : (t : Value) (p q r s : Action Flow) → Needs f g p r → Needs f g q s → Needs f g (branch one v b t p q) (branch other u d t r s)
  branch_needs t p q r s h k = either_needs (holds t) p q r s h k

  assign_needs : (name : List ℕ) (t : Value) → Needs f g (change (assign_field one name t)) (change (assign_field other name t))
  assign_needs name t m s = given f g tt m _ _ (assign_field_alike schema f g name t m s)

  statement_at_needs : (s : Stmt-F Stmt) → Needs f g (statement_at one v b s) (statement_at other u d s)
  statement_at_needs (Stmt-F.Var type_name name line e) =
      bind f g _ _ _ _ (first_value e) (λ t. changes f g (declare (type_named schema.classes type_name) name.text t) Next (λ m. record { reads = λ x k. k; writes = λ x k. k }) (λ m k. record { this = k.this; created = k.created }))
  statement_at_needs (Stmt-F.Assign name line e) =
      bind f g _ _ _ _ (first_value e) (λ t. changes f g (assign_local name.text t) Next (λ m. record { reads = λ x k. k; writes = λ x k. k }) (λ m k. record { this = k.this; created = k.created }))
  statement_at_needs (Stmt-F.FieldAssign field line e) =
      bind f g _ _ _ _ (first_value e) (λ t. bind f g _ _ _ _ (assign_needs field.text t) (λ i. value f g Next))
  statement_at_needs (Stmt-F.Return e) = bind f g _ _ _ _ (first_value e) (λ t. value f g (Returned t))
  statement_at_needs (Stmt-F.If condition then_block) = bind f g _ _ _ _ (first_value condition) (λ t. branch_needs t _ _ _ _ (blocks then_block) (value f g Next))
  statement_at_needs (Stmt-F.IfElse condition then_block otherwise) =
      bind f g _ _ _ _ (first_value condition) (λ t. branch_needs t _ _ _ _ (blocks then_block) (blocks otherwise))
  statement_at_needs (Stmt-F.While condition body) = repeat_needs 100001 condition body
  statement_at_needs (Stmt-F.Print e) =
      bind f g _ _ _ _ (first_value e) (λ t. changes f g (λ m. record m { printed = m.printed ++ printed_as t }) Next (λ m. record { reads = λ x k. k; writes = λ x k. k }) (λ m k. record { this = k.this; created = k.created }))
  statement_at_needs (Stmt-F.Evaluate e) = bind f g _ _ _ _ (first_value e) (λ t. value f g Next)

  statement_needs : (s : Stmt) → Needs f g (statement one v b s) (statement other u d s)
  unfolding statement
  statement_needs s = statement_at_needs (out-Stmt s)

module _ (schema : Schema) (f g : Oref → Option Object) where
  -- expressions and statements, as deep as n
  record Deep (n : ℕ) : Type 0 where
    values : (e : Expr) → Needs f g ((meaning (over schema f) n).value_of e) ((meaning (over schema g) n).value_of e)
    statements : (s : Stmt) → Needs f g ((meaning (over schema f) n).execute s) ((meaning (over schema g) n).execute s)

  deep : (n : ℕ) → Deep n
  unfolding meaning
  deep zero = record { values = λ e. failing f g (stop.Fault fault.Steps); statements = λ s. failing f g (stop.Fault fault.Steps) }
  deep (suc n) =
      let inner = deep n in
      let blocks = block_needs f g (meaning (over schema f) n).execute (meaning (over schema g) n).execute inner.statements in
      record {
        values = expression_needs schema f g _ _ _ _ inner.values blocks;
        statements = statement_needs schema f g _ _ _ _ inner.values blocks;
      }

  -- where a transaction needs an object, and the other objects have what it read and not that one, it needs it there, too
  pub needs_alike : (tx : List Stmt) (names : List Oref) (stand_in : Option ℕ) (x : Oref) (owners : List Oref)
      → let ended = execute_all (over schema f) tx (begun names stand_in) in
      ended.0 ≡ Err (stop.Need x owners) → Agree f g ended.1 → g x ≡ None → execute_all (over schema g) tx (begun names stand_in) ≡ ended
  unfolding execute_all
  needs_alike tx names stand_in x owners is agree none =
      (block_needs f g _ _ (deep 100001).statements tx (begun names stand_in) (record { this = tt; created = λ y h. cc })).need x owners is agree none
